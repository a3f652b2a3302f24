-- Moves that are told one after another, within a segment.
use Rattle.salt_ast.specs.declared.lines.Line.{Line}
use Rattle.salt_disk.specs.declared.disks.DiskErr.TheVariants as disk
use Rattle.law_states.proofs.PointsGoOn.{no-more, runs-point, start-on}
use Rattle.law_states.specs.Laws.{is_of_run}
use Rattle.law_states.specs.Nexts.{next_turn_of}
use Rattle.law_states.specs.Points.{Ask, TraceStep, Moves, Point, Runs, Say, Turn, told_by, trace_on}
use Rattle.law_states.specs.States.{State}
use Rattle.law_story.specs.ContNames.{AreNamed}
use Rattle.salt_model.specs.Trace.{Asked, Start, Trace, from, lines_asked, start_of, ◌asks◌, ◌says◌, ◌turns◌}
use Rattle.salt_model.specs.Words.{Every}
use Rattle.salt_model.specs.declared.events.Event.{Event}
use Rattle.salt_model.specs.declared.events.Flight.{Flight}
use Rattle.salt_driver.specs.Devices.{OnDevices}
use Rattle.salt_driver.specs.Standing.{AdvancesInLine, BreaksAt, FinishesLine, HaltsAt, IsAt, IsInside, IsSoundPoint, RunsShort, StopsWithin}
use Rattle.salt_storage.specs.Answers.{disk_err_of}
use Rattle.salt_storage.specs.declared.halt.Halt.{Halt}
use Rattle.law_types.specs.Played.{HasKey}
use Rattle.law_types.specs.Typed.{IsTyped}
use Rattle.salt_values.specs.declared.id.Id.{Id}
use Rattle.std.proofs.Common.{ap, inl, inr, subst, sym, ◌∙◌}
use Rattle.std.specs.Prelude.{List, None, Option, Some, [], false, refl, ◌++◌, ◌∷◌, ◌≡◌, ◌⊎◌}

pub append-both : (es fs gs : List Event) → (es ++ fs) ++ gs ≡ es ++ (fs ++ gs)
append-both [] fs gs = refl
append-both (e ∷ es) fs gs = ap (λ l. e ∷ l) (append-both es fs gs)

pub runs-both : (ms ns : List TraceStep) (p q r : Point) → Runs p ms q → Runs q ns r → Runs p (ms ++ ns) r
runs-both [] ns p q r f g = subst (λ x. Runs x ns r) (sym f) g
runs-both (m ∷ ms) ns p q r f g = (f.0, f.1, runs-both ms ns f.0 q r f.2 g)

pub told-both : (ms ns : List TraceStep) → told_by (ms ++ ns) ≡ told_by ms ++ told_by ns
told-both [] ns = refl
told-both (Say e ∷ ms) ns = ap (λ es. e ∷ es) (told-both ms ns)
told-both (Ask asked ∷ ms) ns = told-both ms ns
told-both (Turn b ∷ ms) ns = told-both ms ns

pub inside-both : (ms ns : List TraceStep) → Every IsInside ms → Every IsInside ns → Every IsInside (ms ++ ns)
inside-both [] ns f g = g
inside-both (m ∷ ms) ns f g = (f.0, inside-both ms ns f.1 g)

pub tells-both : (story told now : List Event) (ms ns : List TraceStep) → told ≡ story ++ told_by ms → now ≡ told ++ told_by ns → now ≡ story ++ told_by (ms ++ ns)
tells-both story told now ms ns t u =
    u ∙ ap (λ es. es ++ told_by ns) t ∙ append-both story (told_by ms) (told_by ns) ∙ ap (λ es. story ++ es) (sym (told-both ms ns))

-- lines are asked by Ask alone
pub lines-on : (ms : List TraceStep) (trace : Trace) → Every IsInside ms → lines_asked (trace_on trace ms) ≡ lines_asked trace
lines-on [] trace h = refl
lines-on (Ask asked ∷ ms) trace h = absurd h.0
lines-on (Turn b ∷ ms) trace h = lines-on ms (trace turns b) h.1
lines-on (Say e ∷ ms) trace h = lines-on ms (trace says e) h.1

typed-on : (ms : List TraceStep) (trace : Trace) → IsTyped (start_of trace).kept → IsTyped (start_of (trace_on trace ms)).kept
typed-on ms trace h = subst (λ (s : Start). IsTyped s.kept) (sym (start-on ms trace)) h

named-on : (ms : List TraceStep) (trace : Trace) → AreNamed (from (start_of trace)) → AreNamed (from (start_of (trace_on trace ms)))
named-on ms trace h = subst (λ (s : Start). AreNamed (from s)) (sym (start-on ms trace)) h

-- the point that moves lead to is sound
pub sound-on : (ms : List TraceStep) (p q : Point) → IsSoundPoint p → Every IsInside ms → Runs p ms q → IsSoundPoint q
sound-on ms p q s inside r =
    let k = runs-point ms p q s.trace s.keeps s.sound r in
    record {
      trace = trace_on s.trace ms;
      keeps = k.0;
      sound = k.1;
      typed = typed-on ms s.trace s.typed;
      named = named-on ms s.trace s.named;
      keyed = subst (Every HasKey) (sym (lines-on ms s.trace inside)) s.keyed;
    }

pub sound-moved : (m : TraceStep) (p q : Point) → IsInside m → IsSoundPoint p → Moves m p q → IsSoundPoint q
sound-moved m p q i s n = sound-on (m ∷ []) p q s (i, tt) (q, n, refl)

-- behind a line whose table has a key, if it defines one
pub every-last : (asked : Asked) (lines : List Asked) → Every HasKey lines → HasKey asked → Every HasKey (lines ++ asked ∷ [])
every-last asked [] h k = (k, tt)
every-last asked (l ∷ ls) h k = (h.0, every-last asked ls h.1 k)

pub sound-asked : (asked : Asked) (p q : Point) → HasKey asked → IsSoundPoint p → Moves (Ask asked) p q → IsSoundPoint q
sound-asked asked p q key s n =
    let k = runs-point (Ask asked ∷ []) p q s.trace s.keeps s.sound (q, n, refl) in
    record {
      trace = s.trace asks asked;
      keeps = k.0;
      sound = k.1;
      typed = s.typed;
      named = s.named;
      keyed = every-last asked (lines_asked s.trace) s.keyed key;
    }

-- nothing more is told
pub stop-at : (devices : OnDevices) (flight : Option Flight) (halt : Halt) (q : Point) (told : List Event) → HaltsAt devices flight halt q → StopsWithin devices flight halt q told told
stop-at devices flight halt q told h = record { moves = []; point = q; runs = refl; inside = tt; tells = sym (no-more told); halts = h }

-- it broke off in the first event
pub stop-first : (devices : OnDevices) (flight : Option Flight) (halt : Halt) (event : Event) (q : Point) (story told : List Event) → BreaksAt devices flight halt q event story told →
    StopsWithin devices flight halt q story told
stop-first devices flight halt event q story told (inl short) =
    subst (λ (es : List Event). StopsWithin devices flight halt q story es) (sym short.0) (stop-at devices flight halt q story short.1)
stop-first devices flight halt event q story told (inr said) =
    let r = said.1 in record { moves = Say event ∷ []; point = r.0; runs = (r.0, r.1, refl); inside = (tt, tt); tells = said.0; halts = r.2 }

module _ {E : Type 0} (stands_for : E → Option Event → State → Type 0) (line : Line) where
  pub advance-none : (p : Point) (story : List Event) (e : E) (next : Option Event) → IsAt (stands_for e) line next p → AdvancesInLine (stands_for e) line p story next story
  advance-none p story e next at = record { moves = []; point = p; runs = refl; inside = tt; stands = at; tells = sym (no-more story) }

  pub advance-once : (m : TraceStep) → IsInside m → (p q : Point) (told now : List Event) (e : E) (next : Option Event) → Moves m p q → IsAt (stands_for e) line next q →
      now ≡ told ++ told_by (m ∷ []) → AdvancesInLine (stands_for e) line p told next now
  advance-once m i p q told now e next moves at tells = record { moves = m ∷ []; point = q; runs = (q, moves, refl); inside = (i, tt); stands = at; tells = tells }

  pub advance-on : (old : E → Option Event → State → Type 0) (p : Point) (story told now : List Event) (e new : E) (next later : Option Event) →
      (a : AdvancesInLine (old e) line p story next told) → AdvancesInLine (stands_for new) line a.point told later now → AdvancesInLine (stands_for new) line p story later now
  advance-on old p story told now e new next later a b = record {
    moves = a.moves ++ b.moves;
    point = b.point;
    runs = runs-both a.moves b.moves p a.point b.point a.runs b.runs;
    inside = inside-both a.moves b.moves a.inside b.inside;
    stands = b.stands;
    tells = tells-both story told now a.moves b.moves a.tells b.tells;
  }

  -- a turn is told, and settles
  pub turn-on : (old : E → Option Event → State → Type 0) (b : Id) (p q : Point) (story told now : List Event) (e new : E) →
      (a : AdvancesInLine (old e) line p story None told) → Moves (Turn b) a.point q →
      AdvancesInLine (stands_for new) line q told None now → AdvancesInLine (stands_for new) line p story None now
  turn-on old b p q story told now e new a m s = record {
    moves = a.moves ++ Turn b ∷ s.moves;
    point = s.point;
    runs = runs-both a.moves (Turn b ∷ s.moves) p a.point s.point a.runs (q, m, s.runs);
    inside = inside-both a.moves (Turn b ∷ s.moves) a.inside (tt, s.inside);
    stands = s.stands;
    tells = tells-both story told now a.moves (Turn b ∷ s.moves) a.tells s.tells;
  }

  pub finish-where : (p : Point) (story told : List Event) (e : E) → (a : AdvancesInLine (stands_for e) line p story None told) → next_turn_of a.point.state ≡ None →
      FinishesLine (stands_for e) line p story told
  finish-where p story told e a t = record { advances = a; idle = record { serves = a.stands.serves; next = a.stands.comes; turn = t } }

  -- BROKEN OFF

  -- for want of memory, before a move
  pub stop-here : (devices : OnDevices) (flight : Option Flight) (halt : Halt) (p : Point) (story told : List Event) (e : E) (next : Option Event) →
      (a : AdvancesInLine (stands_for e) line p story next told) → HaltsAt devices flight halt a.point → StopsWithin devices flight halt p story told
  stop-here devices flight halt p story told e next a h = record { moves = a.moves; point = a.point; runs = a.runs; inside = a.inside; tells = a.tells; halts = h }

  -- in telling an event
  pub stop-saying : (devices : OnDevices) (flight : Option Flight) (halt : Halt) (e : E) (event : Event) (p : Point) (story told now : List Event) →
      (a : AdvancesInLine (stands_for e) line p story (Some event) told) → BreaksAt devices flight halt a.point event told now → StopsWithin devices flight halt p story now
  stop-saying devices flight halt e event p story told now a (inl same) =
      subst (λ es. StopsWithin devices flight halt p story es) (sym same.0) (stop-here devices flight halt p story told e (Some event) a same.1)
  stop-saying devices flight halt e event p story told now a (inr said) =
      let r = said.1 in
      record {
        moves = a.moves ++ Say event ∷ [];
        point = r.0;
        runs = runs-both a.moves (Say event ∷ []) p a.point r.0 a.runs (r.0, r.1, refl);
        inside = inside-both a.moves (Say event ∷ []) a.inside (tt, tt);
        tells = tells-both story told now a.moves (Say event ∷ []) a.tells said.0;
        halts = r.2;
      }

  -- in a turn
  pub stop-turned : (devices : OnDevices) (flight : Option Flight) (halt : Halt) (b : Id) (p q : Point) (story told now : List Event) (e : E) →
      (a : AdvancesInLine (stands_for e) line p story None told) → Moves (Turn b) a.point q → StopsWithin devices flight halt q told now → StopsWithin devices flight halt p story now
  stop-turned devices flight halt b p q story told now e a m s = record {
    moves = a.moves ++ Turn b ∷ s.moves;
    point = s.point;
    runs = runs-both a.moves (Turn b ∷ s.moves) p a.point s.point a.runs (q, m, s.runs);
    inside = inside-both a.moves (Turn b ∷ s.moves) a.inside (tt, s.inside);
    tells = tells-both story told now a.moves (Turn b ∷ s.moves) a.tells s.tells;
    halts = s.halts;
  }

  -- for want of memory before it, or at its first event
  pub stop-turning : (devices : OnDevices) (flight : Option Flight) (halt : Halt) (b : Id) (p : Point) (story told : List Event) (e : E) →
      (a : AdvancesInLine (stands_for e) line p story None told) →
      RunsShort devices flight halt a.point ⊎ ((q : Point) × Moves (Turn b) a.point q × HaltsAt devices flight halt q) → StopsWithin devices flight halt p story told
  stop-turning devices flight halt b p story told e a (inl short) = stop-here devices flight halt p story told e None a short.1
  stop-turning devices flight halt b p story told e a (inr r) = stop-turned devices flight halt b p r.0 story told told e a r.1 (stop-at devices flight halt r.0 told r.2)

pub none-of : {A : Type 0} (o : Option A) → ((x : A) → o ≡ Some x → ⊥) → o ≡ None
none-of None h = refl
none-of (Some x) h = absurd (h x refl)

-- what broken off in an event tells of the story
pub broken-by : (devices : OnDevices) (flight : Option Flight) (halt : Halt) (p : Point) (e : Event) (story told : List Event) →
    BreaksAt devices flight halt p e story told → ((told ≡ story) × (Some (disk_err_of halt) ≡ Some disk.Memory)) ⊎ ((told ≡ story ++ e ∷ []) × (is_of_run e ≡ false))
broken-by devices flight halt p e story told (inl h) = inl (h.0, ap (λ x. Some (disk_err_of x)) h.2)
broken-by devices flight halt p e story told (inr h) = inr (h.0, h.1.1.1)
