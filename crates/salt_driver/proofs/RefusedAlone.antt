-- A story that gains a Refused alone is that of a line that is refused: it comes first, and no turn comes behind it.
use Rattle.salt_ast.specs.ProgramJudgement.{line_fault}
use Rattle.salt_ast.specs.declared.lines.Line.TheVariants.{GoAll}
use Rattle.salt_ast.specs.declared.lines.Line.{Line}
use Rattle.law_states.proofs.PointsGoOn.{runs-point}
use Rattle.law_states.specs.Laws.{IsSound, is_of_run}
use Rattle.law_states.specs.Nexts.{asked_next, next_turn_of}
use Rattle.law_states.specs.OpenUnits.{UnitState, can_go_in, next_to_go_in}
use Rattle.law_states.specs.Points.{Ask, KeepsPoint, TraceStep, Moves, Point, Runs, Say, Turn, told_by}
use Rattle.law_states.specs.Readings.{WatchReading}
use Rattle.law_states.specs.States.{State}
use Rattle.law_states.specs.Steps.{to_go_by, units_after}
use Rattle.salt_driver.proofs.Refusing.{refused-asked}
use Rattle.salt_driver.specs.Devices.{OnDevices}
use Rattle.salt_driver.specs.Standing.{FinishesLine, IsInside, IsSoundPoint, StopsWithin}
use Rattle.salt_model.specs.Phases.{Serving}
use Rattle.salt_model.specs.Trace.{Trace, Tree, ◌asks◌, ◌turns◌}
use Rattle.salt_model.specs.Turns.{ids_after}
use Rattle.salt_model.specs.Words.{Every}
use Rattle.salt_model.specs.declared.events.Event.TheVariants.{Began, Defined, Did, Down, Ended, Opened, Ready, Refused, Waits}
use Rattle.salt_model.specs.declared.events.Event.{Event}
use Rattle.salt_model.specs.declared.events.Flight.{Flight}
use Rattle.salt_model.specs.declared.events.Refusal.{Refusal}
use Rattle.salt_storage.specs.declared.halt.Halt.{Halt}
use Rattle.salt_values.specs.declared.id.Id.{Id}
use Rattle.std.proofs.Common.{ap, append-nil, inl, inr, sym, ◌∙◌}
use Rattle.std.proofs.lemmas.List.{append_cancel_left}
use Rattle.std.specs.List.{find}
use Rattle.std.specs.Option.{option_or}
use Rattle.std.specs.Prelude.{Bool, Err, IfErr, List, None, Ok, OnOk, Option, Result, Some, [], cond, false, is_some, refl, ◌&&◌, ◌++◌, ◌∷◌, ◌≡◌, ◌⊎◌}

-- no move within a segment but a line's own is one that a Refused follows
turned-not : (r : Refusal) (ms : List TraceStep) (p q : Point) (before : Trace) (b : Id) → KeepsPoint p (before turns b) → IsSound (before turns b) → p.state.units.phase ≡ Serving →
    Every IsInside ms → Runs p ms q → told_by ms ≡ Refused r ∷ [] → ⊥
turned-not r [] p q before b keeps sound serves inside runs told = cc
turned-not r (Ask asked ∷ ms) p q before b keeps sound serves inside runs told = absurd inside.0
turned-not r (Turn c ∷ ms) p q before b keeps sound serves inside runs told =
    let k = runs-point (Turn c ∷ []) p runs.0 (before turns b) keeps sound (runs.0, runs.1, refl) in
    turned-not r ms runs.0 q (before turns b) c k.0 k.1 (ap (λ (s : State). s.units.phase) runs.1.state ∙ serves) inside.1 runs.2 told
turned-not r (Say e ∷ ms) p q before b keeps sound serves inside runs told =
    let first : e ≡ Refused r = cc in
    let a = refused-asked (before turns b) r (keeps.state.units.phase ∙ serves) (keeps.next ∙ runs.1.0.comes ∙ ap (λ (f : Event). Some f) first) in
    let no : before turns b ≡ a.0 asks a.1 = a.2 in cc

-- so it is what comes next at first
pub told-first : (r : Refusal) (ms : List TraceStep) (p q : Point) → IsSoundPoint p → p.state.units.phase ≡ Serving → Every IsInside ms → Runs p ms q → told_by ms ≡ Refused r ∷ [] →
    p.next ≡ Some (Refused r)
told-first r [] p q sound serves inside runs told = cc
told-first r (Ask asked ∷ ms) p q sound serves inside runs told = absurd inside.0
told-first r (Turn b ∷ ms) p q sound serves inside runs told =
    let k = runs-point (Turn b ∷ []) p runs.0 sound.trace sound.keeps sound.sound (runs.0, runs.1, refl) in
    absurd (turned-not r ms runs.0 q sound.trace b k.0 k.1 (ap (λ (s : State). s.units.phase) runs.1.state ∙ serves) inside.1 runs.2 told)
told-first r (Say e ∷ ms) p q sound serves inside runs told = let first : e ≡ Refused r = cc in runs.1.0.comes ∙ ap (λ (f : Event). Some f) first

-- `go all` itself is not refused
all-asked : (s : State) (x : WatchReading s.watch) → asked_next s x (Tree GoAll) ≡ None
unfolding line_fault
all-asked s x = refl

-- so behind another line there is no program to which it has still to turn
pub refused-leaves-none : (r : Refusal) (line : Line) (p q : Point) → Moves (Ask (Tree line)) p q → q.next ≡ Some (Refused r) → q.state.units.to_go ≡ []
refused-leaves-none r line p q a comes = ap (λ (s : State). s.units.to_go) a.state ∙ by line (sym a.next ∙ comes)
  where
    by : (l : Line) → asked_next p.state a.read (Tree l) ≡ Some (Refused r) → to_go_by (Tree l) p.state.units.kept ≡ []
    by GoAll is = let no : None ≡ Some (Refused r) = sym (all-asked p.state a.read) ∙ is in cc
    by l is = refl

-- an event of a run leaves those to which it has still to turn
pub to-go-stays : (e : Event) (s : UnitState) → is_of_run e ≡ false → (units_after e s).to_go ≡ s.to_go
to-go-stays (Began u kind) s h = refl
to-go-stays (Did u st answer) s h = refl
to-go-stays (Waits u owners) s h = refl
to-go-stays (Ended u end) s h = refl
to-go-stays (Defined n text) s h = refl
to-go-stays (Down why) s h = cc
to-go-stays (Opened boot n) s h = cc
to-go-stays Ready s h = refl
to-go-stays e s h = refl

none-to-go : (ms : List TraceStep) (p q : Point) → Every IsInside ms → Runs p ms q → p.state.units.to_go ≡ [] → q.state.units.to_go ≡ []
none-to-go [] p q inside runs none = sym (ap (λ (x : Point). x.state.units.to_go) runs) ∙ none
none-to-go (Ask asked ∷ ms) p q inside runs none = absurd inside.0
none-to-go (Turn b ∷ ms) p q inside runs none = none-to-go ms runs.0 q inside.1 runs.2 (ap (λ (s : State). s.units.to_go) runs.1.state ∙ ap (ids_after b) none)
none-to-go (Say e ∷ ms) p q inside runs none =
    none-to-go ms runs.0 q inside.1 runs.2 (ap (λ (u : UnitState). u.to_go) runs.1.0.after.units ∙ to-go-stays e p.state.units runs.1.1 ∙ none)

-- no move within a segment brings a turn that is owed
owes-no-more : (e : Event) (s : UnitState) → s.owes ≡ false → (units_after e s).owes ≡ false
owes-no-more (Down why) s h = refl
owes-no-more (Refused r) s h = refl
owes-no-more e s h = h

none-owed : (ms : List TraceStep) (p q : Point) → Every IsInside ms → Runs p ms q → p.state.units.owes ≡ false → q.state.units.owes ≡ false
none-owed [] p q inside runs none = sym (ap (λ (x : Point). x.state.units.owes) runs) ∙ none
none-owed (Ask asked ∷ ms) p q inside runs none = absurd inside.0
none-owed (Turn b ∷ ms) p q inside runs none =
    none-owed ms runs.0 q inside.1 runs.2
    (ap (λ (s : State). s.units.owes) runs.1.state ∙ ap (λ (t : Bool). t && is_some (next_to_go_in p.state.units)) none)
none-owed (Say e ∷ ms) p q inside runs none =
    none-owed ms runs.0 q inside.1 runs.2 (ap (λ (u : UnitState). u.owes) runs.1.0.after.units ∙ owes-no-more e p.state.units none)

-- and behind a Refused none is
refused-owes : (r : Refusal) (ms : List TraceStep) (p q : Point) → Every IsInside ms → Runs p ms q → p.next ≡ Some (Refused r) → q.next ≡ None → q.state.units.owes ≡ false
refused-owes r [] p q inside runs comes rests = let no : Some (Refused r) ≡ None = sym comes ∙ ap (λ (x : Point). x.next) runs ∙ rests in cc
refused-owes r (Ask asked ∷ ms) p q inside runs comes rests = absurd inside.0
refused-owes r (Turn b ∷ ms) p q inside runs comes rests = let no : Some (Refused r) ≡ None = sym comes ∙ runs.1.none in cc
refused-owes r (Say e ∷ ms) p q inside runs comes rests =
    let both : Some e ≡ Some (Refused r) = sym runs.1.0.comes ∙ comes in
    let same : e ≡ Refused r = cc in
    none-owed ms runs.0 q inside.1 runs.2
    (ap (λ (u : UnitState). u.owes) runs.1.0.after.units ∙ ap (λ (f : Event). (units_after f p.state.units).owes) same)

-- so within the segment none comes
no-turn : (r : Refusal) (ms : List TraceStep) (p q : Point) → Every IsInside ms → Runs p ms q → p.state.units.to_go ≡ [] → p.next ≡ Some (Refused r) → q.next ≡ None →
    next_turn_of q.state ≡ None
no-turn r ms p q inside runs none comes rests =
    let s = q.state.units in
    let goes = none-to-go ms p q inside runs none in
    let owes = refused-owes r ms p q inside runs comes rests in
    λ i. option_or (find (can_go_in s) (goes i)) (cond (owes i) (find (can_go_in s) s.named) None)

pub turned-to-none : (r : Refusal) (ms : List TraceStep) (p q : Point) (turn : Option Id) (b : Id) → Every IsInside ms → Runs p ms q → p.state.units.to_go ≡ [] →
    p.next ≡ Some (Refused r) → q.next ≡ None → turn ≡ next_turn_of q.state → turn ≡ Some b → ⊥
turned-to-none r ms p q turn b inside runs none comes rests is some =
    let no : Some b ≡ None = sym some ∙ is ∙ no-turn r ms p q inside runs none comes rests in cc

-- of a loop that tells events: what is at hand was so at first, or nothing is
pub at-hand : (r : Refusal) (first next : Option Event) (event : Event) → first ≡ Some (Refused r) → (next ≡ first) ⊎ (next ≡ None) → next ≡ Some event → event ≡ Refused r
at-hand r first next event is (inl same) some = let both : Some event ≡ Some (Refused r) = sym some ∙ same ∙ is in cc
at-hand r first next event is (inr none) some = let no : Some event ≡ None = sym some ∙ none in cc

-- what the story has gained is the events of moves within the segment, whether it was finished or broken off
pub record Gains (p : Point) (story told : List Event) : Type 0 where
  pub moves : List TraceStep
  pub point : Point
  pub runs : Runs p moves point
  pub inside : Every IsInside moves
  pub tells : told ≡ story ++ told_by moves

pub gains : {E A : Type 0} (stands_for : E → Option Event → State → Type 0) (line : Line) (devices : OnDevices) (flight : Option Flight) (p : Point)
    (story told : List Event) (e : E) (result : Result A Halt) → OnOk result (FinishesLine (stands_for e) line p story told) → IfErr result (λ halt. StopsWithin devices flight halt p story told) →
    Gains p story told
gains stands_for line devices flight p story told e (Ok done) finishes stops = record {
  moves = finishes.advances.moves;
  point = finishes.advances.point;
  runs = finishes.advances.runs;
  inside = finishes.advances.inside;
  tells = finishes.advances.tells;
}
gains stands_for line devices flight p story told e (Err halt) finishes stops = record {
  moves = stops.moves;
  point = stops.point;
  runs = stops.runs;
  inside = stops.inside;
  tells = stops.tells;
}

pub gained-first : (r : Refusal) (p : Point) (story told : List Event) → IsSoundPoint p → p.state.units.phase ≡ Serving → Gains p story told → told ≡ story ++ Refused r ∷ [] →
    p.next ≡ Some (Refused r)
gained-first r p story told sound serves g is =
    told-first r g.moves p g.point sound serves g.inside g.runs (append_cancel_left story (told_by g.moves) (Refused r ∷ []) (sym g.tells ∙ is))

-- a story that has gained nothing has not gained an event
pub gained-none : (story : List Event) (e : Event) → story ≡ story ++ e ∷ [] → ⊥
gained-none story e is = let none : [] ≡ e ∷ [] = append_cancel_left story [] (e ∷ []) (append-nil story ∙ is) in cc
