-- The verdict on bytes.
use Rattle.salt_audit.specs.Retelling.{retold, told}
use Rattle.salt_audit.specs.Verdicts.{broken, found_in, sound, unformed}
use Rattle.salt_audit.specs.declared.verdict.Law.{Law}
use Rattle.salt_audit.specs.declared.verdict.Verdict.TheVariants.{Broken, NotText, Unformed, Yes}
use Rattle.salt_audit.specs.declared.verdict.Verdict.{Verdict}
use Rattle.salt_ast.specs.declared.trees.TableDef.{TableDef}
use Rattle.salt_model.specs.After.{kept}
use Rattle.salt_model.specs.EventTexts.{event_text, item_text}
use Rattle.salt_model.specs.Kept.{schema_of}
use Rattle.salt_model.specs.Printable.{IsPrintable, IsPrintableItem}
use Rattle.salt_model.specs.Sized.{IsSizedItem}
use Rattle.salt_model.specs.Trace.{Trace}
use Rattle.salt_model.specs.Words.{Every}
use Rattle.salt_model.specs.declared.events.Event.TheVariants.{Shown}
use Rattle.salt_model.specs.declared.events.Event.{Event}
use Rattle.salt_model.specs.declared.shown.Item.{Item}
use Rattle.salt_values.specs.declared.id.Id.{Id}
use Rattle.std.specs.Prelude.{List, [], flat_map, length, suc, ℕ, ⊤, ◌++◌, ◌+◌, ◌≡◌, ◌≤◌, ◌∷◌}

abbrev pub tables_told : List Event → List TableDef
tables_told story = schema_of (kept (retold story))

-- each event is printable under the tables defined before it; the text names them
abbrev pub ArePrintableOn : Trace → List Event → Type 0
ArePrintableOn trace [] = ⊤
ArePrintableOn trace (e ∷ es) = IsPrintable (schema_of (kept trace)) e × ArePrintableOn (told trace e) es

abbrev pub text_on : Trace → List Event → List ℕ
text_on trace [] = []
text_on trace (e ∷ es) = event_text (schema_of (kept trace)) e ++ text_on (told trace e) es

abbrev pub IsShowable : List TableDef → Item → Type 0
IsShowable schema i = IsPrintableItem schema i × IsSizedItem i

-- so far: events, and then items whose `shown` line is still to come
pub record SoFar : Type 0 where
  pub story : List Event
  pub items : List Item

abbrev pub text_so_far : SoFar → List ℕ
text_so_far s = text_on (retold []) s.story ++ flat_map (item_text (tables_told s.story)) s.items

-- bytes begin with this, and so many are left
pub record BeginsWith (bytes : List ℕ) (s : SoFar) (rest : List ℕ) : Type 0 where
  pub text : bytes ≡ text_so_far s ++ rest
  pub events : ArePrintableOn (retold []) s.story
  pub items : Every (IsShowable (tables_told s.story)) s.items

-- no more of the bytes is of a printable story
abbrev pub IsLongest : List ℕ → List ℕ → Type 0
IsLongest bytes rest = (s : SoFar) (less : List ℕ) → BeginsWith bytes s less → length rest ≤ length less

-- the lines of an event: one, and one of each item
abbrev pub lines_of_event : Event → ℕ
lines_of_event (Shown items) = suc (length items)
lines_of_event e = 1

abbrev pub lines_of_events : List Event → ℕ
lines_of_events [] = 0
lines_of_events (e ∷ es) = lines_of_event e + lines_of_events es

abbrev pub lines_so_far : SoFar → ℕ
lines_so_far s = lines_of_events s.story + length s.items

abbrev pub IsLeft : List Item → List ℕ → Type 0
IsLeft [] [] = ⊥
IsLeft items rest = ⊤

-- the verdict on bytes: of the first event that is amiss; else of the first line that is no text; else yes
pub data IsVerdict (bytes : List ℕ) : Verdict → Type 0 where
  all_told : (story : List Event) → BeginsWith bytes (record { story = story; items = [] }) [] → found_in story ≡ sound → IsVerdict bytes (Yes (length story))
  breaks : (story : List Event) (e : Event) (rest : List ℕ) (law : Law) (u : Id) →
      BeginsWith bytes (record { story = story ++ e ∷ []; items = [] }) rest → found_in (story ++ e ∷ []) ≡ broken law u (suc (length story)) →
      IsVerdict bytes (Broken law u (suc (length story)))
  is_unformed : (story : List Event) (e : Event) (rest : List ℕ) →
      BeginsWith bytes (record { story = story ++ e ∷ []; items = [] }) rest → found_in (story ++ e ∷ []) ≡ unformed (suc (length story)) →
      IsVerdict bytes (Unformed (suc (length story)))
  no_text : (s : SoFar) (rest : List ℕ) → BeginsWith bytes s rest → found_in s.story ≡ sound → IsLeft s.items rest → IsLongest bytes rest →
      IsVerdict bytes (NotText (suc (lines_so_far s)))
