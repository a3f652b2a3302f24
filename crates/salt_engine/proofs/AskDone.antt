-- A line is asked, or `go all` turns to a program: what was performed is a move of the engine's point, or it broke off there.
use Rattle.salt_ast.specs.declared.lines.Line.TheVariants.{Crash}
use Rattle.salt_ast.specs.declared.lines.Line.{Line}
use Rattle.salt_engine.proofs.Halting.{halts}
use Rattle.salt_engine.proofs.LineGoes.{asked-moves, asked-played, asked-serves, asked_to, turned-moves, turned-played, turned-serves, turned_at}
use Rattle.salt_engine.proofs.Stages.{turns-here, turns-now}
use Rattle.salt_engine.specs.Flights.{flight_of}
use Rattle.salt_engine.specs.Performing.{BreaksOff, IsServed, IsToAskIn, PerformsEvent, TurnsIn}
use Rattle.salt_engine.specs.Standing.{AgreesWithState, StandsAtEventIn, left_on_devices, serving_books, turns_by, turns_in}
use Rattle.salt_engine.specs.declared.flights.InFlight.{InFlight}
use Rattle.salt_engine.specs.declared.stage.Stage.TheVariants as at
use Rattle.salt_engine.specs.declared.stage.Stage.{Stage}
use Rattle.salt_books.specs.Sound.{IsSoundState}
use Rattle.law_states.specs.Members.{In}
use Rattle.law_states.specs.Nexts.{asked_next, next_turn_of, turned_next}
use Rattle.law_states.specs.OpenUnits.{UnitState, can_go_in, next_to_go_in, next_turn_in, turn_owed_in}
use Rattle.law_states.specs.Points.{Ask, IsIdle, Moves, Point, Turn}
use Rattle.law_states.specs.Readings.{WatchReading}
use Rattle.law_states.specs.States.{State, asked_of, turned_to}
use Rattle.law_states.specs.Steps.{units_turned}
use Rattle.law_story.proofs.Ids.{is_same_id-refl}
use Rattle.law_story.proofs.NextFits.{find-in}
use Rattle.salt_model.specs.Kept.{Kept}
use Rattle.salt_model.specs.Phases.{Serving}
use Rattle.salt_model.specs.Trace.{Asked, Tree, line_asked}
use Rattle.salt_model.specs.Turns.{ids_after, is_statement_line}
use Rattle.salt_model.specs.declared.events.Event.{Event}
use Rattle.salt_scheduler.proofs.Counting.{programs-apart}
use Rattle.salt_scheduler.specs.Standing.{books_of}
use Rattle.salt_scheduler.specs.declared.scheduler.Scheduler.{Scheduler}
use Rattle.law_decisions.specs.Spelled.{IsSpelledLine}
use Rattle.salt_driver.specs.Standing.{HaltsAt, IsAt, IsSoundPoint}
use Rattle.salt_storage.specs.Storing.{IsSoundKept}
use Rattle.salt_storage.specs.Writing.{ToWrite}
use Rattle.salt_storage.specs.declared.halt.Halt.{Halt}
use Rattle.law_types.specs.Played.{HasKey}
use Rattle.salt_values.specs.Id.{is_same_id}
use Rattle.salt_values.specs.declared.id.Id.{Id}
use Rattle.salt_conflicts.proofs.Readable.{readable}
use Rattle.std.proofs.Common.{ap, arith, inl, inr, subst, sym, ◌∙◌}
use Rattle.std.specs.List.{find}
use Rattle.std.specs.Option.{option_or}
use Rattle.std.specs.Prelude.{Bool, Err, IfOk, List, None, Ok, OnOk, Option, Result, Some, [], cond, false, if◌then◌else◌, is_some, length, refl, true, ℕ, ◌&&◌, ◌<◌, ◌∷◌, ◌≡◌, ◌≤◌}

pub sound-here : (p : Point) → IsSoundPoint p → IsSoundState p.state
sound-here p sound = record { trace = sound.trace; keeps = sound.keeps.state; sound = sound.sound }

pub reads-here : (p : Point) → IsSoundPoint p → WatchReading p.state.watch
reads-here p sound = readable p.state.watch sound.trace sound.keeps.state.watch sound.sound

-- what an Ok tells whatever its value is
pub on-ok : {T E X : Type 0} (r : Result T E) (P : T → Type 0) → ((x : T) → P x → X) → IfOk r P → OnOk r X
on-ok (Ok x) P f h = f x h
on-ok (Err e) P f h = tt

-- what is served is spelled
pub spelled-of : (line : Line) → IsServed line → IsSpelledLine line
spelled-of (Crash pairs) h = tt
spelled-of line h = h

-- A LINE

pub to-ask : (holds : Kept → Type 0) (is_new : Id → Type 0) (stoppable : Bool) (stage : Stage Scheduler) (single : Bool) (in_flight : Option InFlight) (line : Line) (p : Point) →
    IsSoundPoint p → IsIdle p → IsServed line → ((line : Line) → IsSpelledLine line → HasKey (Tree line)) → AgreesWithState (StandsAtEventIn holds is_new stage) stoppable single in_flight None p.state →
    IsToAskIn holds is_new stoppable line stage p.state
to-ask holds is_new stoppable (at.Going x) single in_flight line p sound idle served keys sees = record {
  played = asked-played (Tree line) p sound idle (keys line (spelled-of line served));
  distinct = programs-apart p.state (sound-here p sound);
  serves = asked-serves (Tree line) p sound idle;
  stands = sees.seen.0;
  stored = sees.seen.1;
  served = served;
  can_stop = sees.can_stop;
}
to-ask holds is_new stoppable (at.Down books) single in_flight line p sound idle served keys sees = absurd sees.seen
to-ask holds is_new stoppable at.Lost single in_flight line p sound idle served keys sees = absurd sees.seen

pub asked-there : (stands_for : Option Event → State → Type 0) (asked : Asked) (p : Point) (sound : IsSoundPoint p) (idle : IsIdle p) (r : WatchReading p.state.watch)
    (given : Option Event) → stands_for given (asked_of asked p.state) → given ≡ asked_next p.state r asked → (q : Point) × Moves (Ask asked) p q × IsAt stands_for (line_asked asked) given q
asked-there stands_for asked p sound idle r given state told = (
  asked_to asked p sound idle r,
  asked-moves asked p sound idle r,
  record { state = state; comes = sym told; serves = idle.serves; line = refl },
)

module _ (holds : Kept → Type 0) (leaves : Kept → Kept → Type 0) (rests : Kept → Type 0) (fills : ToWrite → ℕ → Type 0) (halt : Halt) (old stoppable : Bool) (stage : Stage Scheduler) (single : Bool)
    (in_flight : Option InFlight) (p : Point) (sound : IsSoundPoint p) (can : p.state.can_stop ≡ old) (same : stoppable ≡ old) (kept : IsSoundKept p.state.units.kept) where
  pub asked-halts : (asked : Asked) (idle : IsIdle p) (r : WatchReading p.state.watch) → BreaksOff leaves fills halt stage in_flight (asked_next p.state r asked) (asked_of asked p.state).units →
      single ≡ is_statement_line (line_asked asked) →
      (q : Point) × Moves (Ask asked) p q × HaltsAt (left_on_devices holds leaves rests fills stoppable None (serving_books stage) single in_flight) (flight_of in_flight) halt q
  asked-halts asked idle r b line = (
    asked_to asked p sound idle r,
    asked-moves asked p sound idle r,
    halts books_of holds leaves rests fills halt stoppable None refl stage single in_flight (asked_to asked p sound idle r) b refl (can ∙ sym same) line kept,
  )

  pub turned-halts : (b : Id) (serves : p.state.units.phase ≡ Serving) (none : p.next ≡ None) (turn : next_turn_of p.state ≡ Some b) (r : WatchReading p.state.watch) →
      BreaksOff leaves fills halt stage in_flight (turned_next p.state r b) (turned_to b p.state).units → single ≡ is_statement_line p.state.units.line →
      (q : Point) × Moves (Turn b) p q × HaltsAt (left_on_devices holds leaves rests fills stoppable None (serving_books stage) single in_flight) (flight_of in_flight) halt q
  turned-halts b serves none turn r broken line = (
    turned_at b p sound serves none turn r,
    turned-moves b p sound serves none turn r,
    halts books_of holds leaves rests fills halt stoppable None refl stage single in_flight (turned_at b p sound serves none turn r) broken refl (can ∙ sym same) line kept,
  )

-- A TURN

pub to-turn : (holds : Kept → Type 0) (is_new : Id → Type 0) (stage : Stage Scheduler) (line : Line) (b : Id) (p : Point) → IsSoundPoint p → p.state.units.phase ≡ Serving →
    p.state.units.line ≡ line → p.next ≡ None → next_turn_of p.state ≡ Some b → StandsAtEventIn holds is_new stage None p.state → TurnsIn holds is_new line b stage p.state
to-turn holds is_new (at.Going x) line b p sound serves served none turn seen = record {
  turns = record { turn = turn; serves = turned-serves b p sound serves none turn line served; stands = seen.0 };
  played = turned-played b p sound serves none turn;
  stored = seen.1;
}
to-turn holds is_new (at.Down books) line b p sound serves served none turn seen = absurd seen
to-turn holds is_new at.Lost line b p sound serves served none turn seen = absurd seen

pub turned-there : (stands_for : Option Event → State → Type 0) (line : Line) (b : Id) (p : Point) (sound : IsSoundPoint p) (serves : p.state.units.phase ≡ Serving)
    (none : p.next ≡ None) (turn : next_turn_of p.state ≡ Some b) (r : WatchReading p.state.watch) (given : Option Event) → p.state.units.line ≡ line → stands_for given (turned_to b p.state) →
    given ≡ turned_next p.state r b → (q : Point) × Moves (Turn b) p q × IsAt stands_for line given q
turned-there stands_for line b p sound serves none turn r given served state told = (
  turned_at b p sound serves none turn r,
  turned-moves b p sound serves none turn r,
  record { state = state; comes = sym told; serves = serves; line = served },
)

pub turned-sees : (holds : Kept → Type 0) (is_new : Id → Type 0) (old now was single : Bool) (stage : Stage Scheduler) (in_flight : Option InFlight) (meant given : Option Event) (b : Id) (s : State) →
    PerformsEvent (StandsAtEventIn holds is_new stage) in_flight meant given (turned_to b s) → s.can_stop ≡ old → now ≡ old → was ≡ is_statement_line s.units.line → single ≡ was →
    AgreesWithState (StandsAtEventIn holds is_new stage) now single in_flight given (turned_to b s)
turned-sees holds is_new old now was single stage in_flight meant given b s h can same line kept = record {
  seen = h.sees;
  can_stop = can ∙ sym same;
  line = kept ∙ line;
  flies = h.flies;
}

-- a turn leaves fewer to come: one of `go all` is behind it, or the one that was owed

shorter : (b : Id) (bs : List Id) → In b bs → length (ids_after b bs) < length bs
shorter b [] i = absurd i
shorter b (c ∷ bs) i = by (is_same_id b c) refl i (λ j. shorter b bs j)
  where
    by : (t : Bool) → is_same_id b c ≡ t → In b (c ∷ bs) → (In b bs → length (ids_after b bs) < length bs) → length (cond t bs (ids_after b bs)) < length (c ∷ bs)
    by true e i more = omega arith
    by false e (inl q) more = let t : true ≡ false = sym (subst (λ x. is_same_id b x ≡ true) (sym q) (is_same_id-refl b)) ∙ e in cc
    by false e (inr j) more = let h = more j in omega arith

no-longer : (b : Id) (bs : List Id) → length (ids_after b bs) ≤ length bs
no-longer b [] = omega arith
no-longer b (c ∷ bs) = by (is_same_id b c) (no-longer b bs)
  where
    by : (t : Bool) → length (ids_after b bs) ≤ length bs → length (cond t bs (ids_after b bs)) ≤ length (c ∷ bs)
    by true h = omega arith
    by false h = omega arith

pub turns-fall : (s : UnitState) (b : Id) → next_turn_in s ≡ Some b → turns_by (units_turned b s).to_go (units_turned b s).owes < turns_by s.to_go s.owes
turns-fall s b turn = by (next_to_go_in s) refl turn
  where
    goes : (owes : Bool) → length (ids_after b s.to_go) < length s.to_go → turns_by (ids_after b s.to_go) (owes && true) < turns_by s.to_go owes
    goes true less = omega arith
    goes false less = omega arith

    owed : (owes : Bool) → (if owes then find (can_go_in s) s.named else None) ≡ Some b → turns_by (ids_after b s.to_go) (owes && false) < turns_by s.to_go owes
    owed true h = let less = no-longer b s.to_go in omega arith
    owed false h = cc

    by : (o : Option Id) → next_to_go_in s ≡ o → option_or o (turn_owed_in s) ≡ Some b → turns_by (ids_after b s.to_go) (s.owes && is_some o) < turns_by s.to_go s.owes
    by (Some c) is h =
        let same : c ≡ b = cc in
        let found : find (can_go_in s) s.to_go ≡ Some b = is ∙ ap (λ (d : Id). Some d) same in
        goes s.owes (shorter b s.to_go (find-in (can_go_in s) b s.to_go found).0)
    by None is h = owed s.owes h

pub turned-fewer : (holds now : Kept → Type 0) (is_new new_now : Id → Type 0) (stage later : Stage Scheduler) (b : Id) (given : Option Event) (s : State) → next_turn_of s ≡ Some b →
    StandsAtEventIn holds is_new stage None s → StandsAtEventIn now new_now later given (turned_to b s) → turns_in later < turns_in stage
turned-fewer holds now is_new new_now stage later b given s turn seen sees =
    let before = turns-here holds is_new stage s seen in
    let after = turns-now now new_now later given (turned_to b s) sees in
    let less = turns-fall s.units b turn in
    omega arith
