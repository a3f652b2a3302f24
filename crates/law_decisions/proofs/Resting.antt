-- What is kept at each place of a played trace can be drained: programs are spelled and proper, and their continuations stand at parts of
-- them.
use Rattle.law_decisions.proofs.Draining.{can-drain}
use Rattle.law_decisions.specs.Spelled.{IsSpelledAsked, IsSpelledLine}
use Rattle.law_openings.specs.Draining.{CanDrain}
use Rattle.law_types.specs.Played.{HasKey, IsTypedAt}
use Rattle.law_types.specs.Typed.{IsTyped}
use Rattle.salt_ast.specs.declared.lines.Line.TheVariants.{Program, Table}
use Rattle.salt_ast.specs.declared.lines.Line.{Line}
use Rattle.salt_model.specs.After.{branched, defined_by, kept}
use Rattle.salt_model.specs.Everywhere.{Always}
use Rattle.salt_model.specs.Kept.{Kept, WellKept}
use Rattle.salt_model.specs.Played.{IsPlayed}
use Rattle.salt_model.specs.Trace.{Asked, Rejected, Trace, Tree, from, line_of, lines_asked, start_of, ◌asks◌, ◌says◌, ◌turns◌}
use Rattle.salt_model.specs.Units.{kind_of}
use Rattle.salt_model.specs.Words.{Every}
use Rattle.salt_model.specs.declared.events.End.TheVariants.{Branched, Committed}
use Rattle.salt_model.specs.declared.events.Event.TheVariants.{Defined, Ended}
use Rattle.salt_model.specs.declared.events.Event.{Event}
use Rattle.salt_model.specs.declared.events.UnitKind.{UnitKind}
use Rattle.salt_storage.specs.Storing.{IsSoundKept, IsSpelledDefinition}
use Rattle.std.proofs.Common.{subst, sym}
use Rattle.std.specs.Prelude.{List, None, Option, Some, [], refl, ℕ, ◌++◌, ◌∷◌, ◌≡◌}

-- LISTS

every-front : {A : Type 0} (P : A → Type 0) (xs ys : List A) → Every P (xs ++ ys) → Every P xs
every-front P [] ys h = tt
every-front P (x ∷ xs) ys h = (h.0, every-front P xs ys h.1)

every-last : {A : Type 0} (P : A → Type 0) (xs : List A) (y : A) → Every P (xs ++ y ∷ []) → P y
every-last P [] y h = h.0
every-last P (x ∷ xs) y h = every-last P xs y h.1

every-behind : {A : Type 0} (P : A → Type 0) (xs ys : List A) → Every P xs → Every P ys → Every P (xs ++ ys)
every-behind P [] ys h g = g
every-behind P (x ∷ xs) ys h g = (h.0, every-behind P xs ys h.1 g)

-- DEFINITIONS of a trace are its start's and its lines'

line-spelled : (trace : Trace) → Every IsSpelledAsked (lines_asked trace) → IsSpelledLine (line_of trace)
line-spelled (from k) h = tt
line-spelled (trace asks asked) h = every-last IsSpelledAsked (lines_asked trace) asked h
line-spelled (trace turns b) h = line-spelled trace h
line-spelled (trace says e) h = line-spelled trace h

defined-spelled : (line : Line) → IsSpelledLine line → Every IsSpelledDefinition (defined_by line)
defined-spelled (Table d) h = (h, tt)
defined-spelled (Program p) h = (h, tt)
defined-spelled line h = tt

branched-same : (k : Kept) (n : ℕ) (kind : Option UnitKind) → (branched k n kind).definitions ≡ k.definitions
branched-same k n None = refl
branched-same k n (Some kind) = refl

says-spelled : (trace : Trace) (e : Event) → IsSpelledLine (line_of trace) → Every IsSpelledDefinition (kept trace).definitions → Every IsSpelledDefinition (kept (trace says e)).definitions
says-spelled trace (Defined n text) line h = every-behind IsSpelledDefinition (kept trace).definitions (defined_by (line_of trace)) h (defined-spelled (line_of trace) line)
says-spelled trace (Ended u (Committed n)) line h = h
says-spelled trace (Ended u (Branched n cause)) line h = subst (Every IsSpelledDefinition) (sym (branched-same (kept trace) n (kind_of u trace))) h
says-spelled trace e line h = h

kept-spelled : (trace : Trace) → Every IsSpelledDefinition (start_of trace).kept.definitions → Every IsSpelledAsked (lines_asked trace) → Every IsSpelledDefinition (kept trace).definitions
kept-spelled (from k) h lines = h
kept-spelled (trace asks asked) h lines = kept-spelled trace h (every-front IsSpelledAsked (lines_asked trace) (asked ∷ []) lines)
kept-spelled (trace turns b) h lines = kept-spelled trace h lines
kept-spelled (trace says e) h lines = says-spelled trace e (line-spelled trace lines) (kept-spelled trace h lines)

-- EACH PLACE

module _ (keys : (line : Line) → IsSpelledLine line → HasKey (Tree line))
    (typed : (trace : Trace) → IsPlayed trace → WellKept (start_of trace).kept → IsTyped (start_of trace).kept → Every HasKey (lines_asked trace) → IsTypedAt trace) where
  key-of : (asked : Asked) → IsSpelledAsked asked → HasKey asked
  key-of (Tree line) h = keys line h
  key-of (Rejected refusal) h = tt

  keyed : (lines : List Asked) → Every IsSpelledAsked lines → Every HasKey lines
  keyed [] h = tt
  keyed (asked ∷ lines) h = (key-of asked h.0, keyed lines h.1)

  drains-here : (trace : Trace) → IsPlayed trace → IsSoundKept (start_of trace).kept → Every IsSpelledAsked (lines_asked trace) → CanDrain (kept trace)
  drains-here trace played sound lines =
      can-drain (kept trace) (typed trace played sound.well sound.typed (keyed (lines_asked trace) lines)).kept (kept-spelled trace sound.spelled lines)

  pub drains-always : (trace : Trace) → IsPlayed trace → IsSoundKept (start_of trace).kept → Every IsSpelledAsked (lines_asked trace) → Always (λ t. CanDrain (kept t)) trace
  drains-always (from k) played sound lines = drains-here (from k) played sound lines
  drains-always (trace asks asked) played sound lines =
      (drains-always trace played.0 sound (every-front IsSpelledAsked (lines_asked trace) (asked ∷ []) lines), drains-here (trace asks asked) played sound lines)
  drains-always (trace turns b) played sound lines = (drains-always trace played.0 sound lines, drains-here (trace turns b) played sound lines)
  drains-always (trace says e) played sound lines = (drains-always trace played.0 sound lines, drains-here (trace says e) played sound lines)
