-- A line is asked of a scheduler: it is refused, or what it brings first comes next.
use Rattle.salt_ast.specs.declared.lines.Line.TheVariants.{Crash, Net, Nothing, Program, Table}
use Rattle.salt_ast.specs.declared.lines.Line.{Line}
use Rattle.salt_ast.specs.declared.programs.ProgramDef.{ProgramDef}
use Rattle.salt_ast.specs.declared.trees.TableDef.{TableDef}
use Rattle.salt_disk.specs.Disks.{View}
use Rattle.salt_engine.proofs.Counted.{same-cause}
use Rattle.salt_engine.proofs.Flying.{none-flies}
use Rattle.salt_engine.proofs.Performed.{serves-by, stored-plain}
use Rattle.salt_engine.proofs.Plain.{first-plain}
use Rattle.salt_engine.specs.Performing.{AsksLine, ComesOut, IsPlayedBefore, IsServed, IsToAsk, PerformsEvent, Rejects, is_prepared}
use Rattle.salt_engine.specs.Stored.{Stored}
use Rattle.salt_engine.specs.declared.flights.InFlight.{InFlight}
use Rattle.salt_engine.specs.declared.stage.Stage.TheVariants as at
use Rattle.salt_engine.specs.declared.stage.Stage.{Stage}
use Rattle.salt_scheduler.specs.Refusals.{HasFewParts}
use Rattle.salt_scheduler.specs.Serving.{is_prepared_line}
use Rattle.law_states.specs.Nexts.{asked_next, refusal_of}
use Rattle.law_states.specs.Points.{Point}
use Rattle.law_states.specs.Readings.{WatchReading, clash_by, items_by}
use Rattle.law_states.specs.States.{State, asked_of}
use Rattle.law_states.specs.OpenUnits.{UnitState}
use Rattle.law_states.specs.Told.{Clashes, Items, line_in}
use Rattle.salt_model.specs.Kept.{Kept}
use Rattle.salt_model.specs.Trace.{Rejected, Tree}
use Rattle.salt_model.specs.declared.events.Event.TheVariants.{Refused}
use Rattle.salt_model.specs.declared.events.Event.{Event}
use Rattle.salt_model.specs.declared.events.Refusal.{Refusal}
use Rattle.salt_scheduler.specs.Standing as scheduling
use Rattle.salt_scheduler.specs.declared.scheduler.Scheduler.{Scheduler}
use Rattle.law_decisions.proofs.Reading.{few-parts}
use Rattle.salt_driver.proofs.Counted.{counts-cause}
use Rattle.salt_driver.specs.Counting.{CountsStops, armed_at, armed_told}
use Rattle.salt_storage.specs.Writing.{ToWrite}
use Rattle.salt_storage.specs.declared.halt.Halt.{Halt}
use Rattle.salt_values.specs.declared.id.Id.{Id}
use Rattle.std.proofs.Common.{ap, subst, sym, ◌∙◌}
use Rattle.std.specs.Option.{option_or}
use Rattle.std.specs.Prelude.{Bool, Err, IfOk, List, None, Ok, Option, Result, Some, [], false, option_map, refl, true, ℕ, ◌≡◌}
use Rattle.std.specs.Result.{IsErrAnd}
use Rattle.salt_engine.specs.Standing.{StandsAtEventIn}

pub few-of : (line : Line) → IsServed line → HasFewParts line
few-of (Program p) h = few-parts p h
few-of line h = tt

-- a line that is no definition and arms nothing
pub plain-line : (line : Line) → ((d : TableDef) → line ≡ Table d → ⊥) → ((p : ProgramDef) → line ≡ Program p → ⊥) →
    ((pairs : List (ℕ × ℕ)) → line ≡ Crash pairs → ⊥) → ((pairs : List (ℕ × ℕ)) → line ≡ Net pairs → ⊥) → is_prepared_line line ≡ false
plain-line (Table d) no_table no_program no_crash no_net = absurd (no_table d refl)
plain-line (Program p) no_table no_program no_crash no_net = absurd (no_program p refl)
plain-line (Crash pairs) no_table no_program no_crash no_net = absurd (no_crash pairs refl)
plain-line (Net pairs) no_table no_program no_crash no_net = absurd (no_net pairs refl)
plain-line line no_table no_program no_crash no_net = refl

pub armed-none : {H : Type 0} (line : Line) (r : Result (Option Event) H) → IfOk r (λ e. armed_at line e ≡ []) → armed_told line r ≡ []
armed-none line (Ok e) h = h
armed-none line (Err e) h = refl

-- NOT REFUSED

never-refused : (s : UnitState) (clash : Clashes) (items : Items) (line : Line) (refusal : Refusal) → line_in s clash items line ≡ Some (Refused refusal) → ⊥
never-refused s clash items (Table d) refusal h = cc
never-refused s clash items (Program p) refusal h = cc
never-refused s clash items (Crash pairs) refusal h = cc
never-refused s clash items (Net pairs) refusal h = cc
never-refused s clash items line refusal h = let no : true ≡ false = ap is_prepared (sym h) ∙ first-plain s clash items line refl in cc

-- what a line brings is no refusal
pub begun-unrefused : (seen : Option Event → State → Type 0) (leaves : Kept → Kept → Type 0) (fills : ToWrite → ℕ → Type 0) (stage : Stage Scheduler) (in_flight : Option InFlight) (s : State)
    (r : WatchReading s.watch) (line : Line) (result : Result (Option Event) Halt) → ComesOut (λ e. e) seen leaves fills stage in_flight (line_in s.units (clash_by s) (items_by s r) line) s result →
    (refusal : Refusal) → result ≡ Ok (Some (Refused refusal)) → ⊥
begun-unrefused seen leaves fills stage in_flight s r line (Ok given) performs refusal is =
    let same : given ≡ Some (Refused refusal) = cc in never-refused s.units (clash_by s) (items_by s r) line refusal (sym performs.told ∙ same)
begun-unrefused seen leaves fills stage in_flight s r line (Err halt) broken refusal is = cc

-- nothing is given by an error
pub err-unrefused : (P : Halt → Type 0) (X : Type 0) (result : Result (Option Event) Halt) → IsErrAnd result P → (refusal : Refusal) → result ≡ Ok (Some (Refused refusal)) → X
err-unrefused P X (Ok given) never refusal is = absurd never
err-unrefused P X (Err halt) told refusal is = cc

module _ (holds : Kept → Type 0) (is_new : Id → Type 0) (stoppable : Bool) (line : Line) (x : Scheduler) (s : State) (h : IsToAsk holds is_new stoppable line x s) where
  abbrev pub now : State
  now = asked_of (Tree line) s

  pub unrefused : refusal_of s (Tree line) ≡ None → (r : WatchReading s.watch) → asked_next s r (Tree line) ≡ line_in now.units (clash_by now) (items_by now r) line
  unrefused none r = ap (λ (o : Option Refusal). option_or (option_map Refused o) (line_in now.units (clash_by now) (items_by now r) line)) none

  pub asks-line : (y : Scheduler) → refusal_of s (Tree line) ≡ None → scheduling.StandsForState y now → AsksLine holds is_new stoppable line y now
  asks-line y none stands = record {
    played = λ r. subst (λ (m : Option Event). IsPlayedBefore m now) (unrefused none r) (h.played r);
    allowed = record { serves = h.serves; allowed = none };
    stands = stands;
    stored = record { holding = h.stored.holding; new = h.stored.new };
    served = h.served;
    can_stop = h.can_stop;
  }

  -- OR IT IS

  module _ (refusal : Refusal) (refused : refusal_of s (Tree line) ≡ Some refusal) where
    pub is-refused : (r : WatchReading s.watch) → asked_next s r (Tree line) ≡ Some (Refused refusal)
    is-refused r = ap (λ (o : Option Refusal). option_or (option_map Refused o) (line_in now.units (clash_by now) (items_by now r) line)) refused

    pub refused-performs : (stage : Stage Scheduler) (in_flight : Option InFlight) (e : Event) (y z : Scheduler) → stage ≡ at.Going z →
        scheduling.DoesNext (λ s r. Some (Refused refusal)) line y z e → scheduling.StandsForState y now → in_flight ≡ None →
        (r : WatchReading s.watch) → PerformsEvent (StandsAtEventIn holds is_new stage) in_flight (asked_next s r (Tree line)) (Some e) now
    refused-performs stage in_flight e y z there does stands none r =
        serves-by holds is_new stage in_flight (asked_next s r (Tree line)) now z (Refused refusal) e (none-flies in_flight None now.units none refl) there (is-refused r) (does now r stands h.serves) h.serves.phase
        (stored-plain holds is_new (Refused refusal) (asked_next s r (Tree line)) now (h.played r) (is-refused r) refl refl
        (record { holding = h.stored.holding; new = h.stored.new }))

-- A TEXT that is refused

module _ (holds : Kept → Type 0) (is_new : Id → Type 0) (refusal : Refusal) (x y : Scheduler) (p : Point) where
  abbrev pub rejected : State
  rejected = asked_of (Rejected refusal) p.state

  pub rejected-performs : (in_flight : Option InFlight) (e : Event) (r : WatchReading p.state.watch) → Rejects refusal x y e → scheduling.StandsForState x p.state →
      scheduling.ServesLine Nothing rejected → IsPlayedBefore (asked_next p.state r (Rejected refusal)) rejected → Stored holds is_new p.state.units → in_flight ≡ None →
      PerformsEvent (StandsAtEventIn holds is_new (at.Going y)) in_flight (asked_next p.state r (Rejected refusal)) (Some e) rejected
  rejected-performs in_flight e r f stands serves played stored none =
      serves-by holds is_new (at.Going y) in_flight (asked_next p.state r (Rejected refusal)) rejected y (Refused refusal) e (none-flies in_flight None rejected.units none refl) refl refl (f p.state r stands serves) serves.phase
      (stored-plain holds is_new (Refused refusal) (asked_next p.state r (Rejected refusal)) rejected played refl refl refl (record { holding = stored.holding; new = stored.new }))

-- no call of the storage was made
pub counts-same : (d : View) (armed : List (ℕ × ℕ)) → armed ≡ [] → CountsStops d d None armed 0
counts-same d armed none = counts-cause d d None armed none (same-cause d)
