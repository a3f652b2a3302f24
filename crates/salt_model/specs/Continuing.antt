-- Each program goes along its declared path, and each opening brings all of them to their ends.
use Rattle.salt_model.specs.After.{kept}
use Rattle.salt_model.specs.Everywhere.{Each}
use Rattle.salt_model.specs.Kept.{cont_of}
use Rattle.salt_model.specs.Phases.{Opening, phase}
use Rattle.salt_model.specs.Programs.{accepted_in, finished_in}
use Rattle.salt_model.specs.Trace.{Trace, over_events, start_of, ◌says◌}
use Rattle.salt_model.specs.Units.{kind_of, open_units, program_begun}
use Rattle.salt_model.specs.Words.{Every}
use Rattle.salt_model.specs.declared.events.End.TheVariants.{Branched, Committed, Victim}
use Rattle.salt_model.specs.declared.events.Event.{Event}
use Rattle.salt_model.specs.declared.events.Event.TheVariants.{Accepted, Armed, Began, Early, Ended, Finished, Ready, Refused, Released, Shown, Waits}
use Rattle.salt_model.specs.declared.events.UnitKind.{UnitKind}
use Rattle.salt_model.specs.declared.events.UnitKind.TheVariants.{Later}
use Rattle.salt_values.specs.Id.{has_id, in_order}
use Rattle.salt_values.specs.declared.cont.Cont.{Cont}
use Rattle.salt_values.specs.declared.id.Id.{Id}
use Rattle.std.specs.Bool.{then_some}
use Rattle.std.specs.Prelude.{Bool, IsTrue, List, None, Option, Some, [], false, is_none, not, option_and_then, option_map, suc, true, ℕ, ⊤, ◌&&◌, ◌≡◌, ◌≤◌}

-- the last event of a trace
abbrev pub last_said : Trace → Option Event
last_said = over_events (λ k. None) (λ trace e last. Some e)

-- the part at which a program's continuation stands
abbrev pub part_due : Trace → Id → Option ℕ
part_due trace b = option_map (λ c. c.next) (cont_of b (kept trace))

-- accepted and not finished
abbrev pub is_unfinished : Trace → Id → Bool
is_unfinished trace b = has_id b (accepted_in trace) && not (has_id b (finished_in trace))

-- ACCEPTANCE stands directly after the commit of a First unit, and nowhere else.

abbrev pub accepted_after : Trace → Option Event → Option Id
accepted_after trace (Some (Ended u (Committed n))) = option_and_then program_begun (kind_of u trace)
accepted_after trace e = None

abbrev pub accepted_by : Event → Option Id
accepted_by (Accepted b) = Some b
accepted_by e = None

abbrev pub AcceptsDue : Trace → Event → Type 0
AcceptsDue trace e = accepted_after trace (last_said trace) ≡ accepted_by e

-- FINISHED stands directly after the decided end of a Later unit, or the acceptance, whose way is the end, and nowhere else.

abbrev pub program_continued : UnitKind → Option Id
program_continued (Later b part) = Some b
program_continued kind = None

-- a program for which no part is due
abbrev pub if_ended : Trace → Option Id → Option Id
if_ended trace o = option_and_then (λ b. then_some (is_none (part_due trace b)) b) o

abbrev pub finished_after : Trace → Option Event → Option Id
finished_after trace (Some (Ended u (Committed n))) = if_ended trace (option_and_then program_continued (kind_of u trace))
finished_after trace (Some (Ended u (Branched n c))) = if_ended trace (option_and_then program_continued (kind_of u trace))
finished_after trace (Some (Accepted b)) = if_ended trace (Some b)
finished_after trace e = None

abbrev pub finished_by : Event → Option Id
finished_by (Finished b) = Some b
finished_by e = None

abbrev pub FinishesDue : Trace → Event → Type 0
FinishesDue trace e = finished_after trace (last_said trace) ≡ finished_by e

-- A PART begins where its program, accepted and unfinished, stands; at Ready no program is unfinished; an early opening names those that are.

-- in an opening that may be early: exactly the programs that are accepted and unfinished, in order of names
pub record NamesUnfinished (trace : Trace) (bs : List Id) : Type 0 where
  pub opening : phase trace ≡ Opening
  pub allowed : (start_of trace).early ≡ true
  pub names : (b : Id) → has_id b bs ≡ is_unfinished trace b
  pub ordered : in_order bs ≡ bs

abbrev pub GoesAlong : Trace → Event → Type 0
GoesAlong trace (Began u (Later b part)) = (part_due trace b ≡ Some part) × IsTrue (is_unfinished trace b)
GoesAlong trace Ready = (b : Id) → is_unfinished trace b ≡ false
GoesAlong trace (Early bs) = NamesUnfinished trace bs
GoesAlong trace e = ⊤

-- A FAILURE with tries left leaves the program at its part, with one fewer, and changes no more of it.

abbrev pub UsesTry : Trace → Event → Type 0
UsesTry trace (Ended u (Branched n x)) =
    (b : Id) (part : ℕ) (c : Cont) (tries : ℕ) → kind_of u trace ≡ Some (Later b part) → cont_of b (kept trace) ≡ Some c → c.tries ≡ suc tries →
    cont_of b (kept (trace says Ended u (Branched n x))) ≡ Some (record c { tries = tries })
UsesTry trace e = ⊤

-- IN AN OPENING programs run one after another, in the order of the decisions that accepted them.

-- no program was accepted before b
abbrev pub IsFirstAccepted : Trace → Id → Type 0
IsFirstAccepted trace b = (c : Cont) → cont_of b (kept trace) ≡ Some c → Every (λ (d : Cont). c.accepted ≤ d.accepted) (kept trace).conts

-- what may stand between an Opened and its Ready, or its Early; where openings may be early, no part begins
abbrev pub IsForOpening : Trace → Event → Type 0
IsForOpening trace (Began u (Later b part)) = ((start_of trace).early ≡ false) × (open_units trace ≡ []) × IsFirstAccepted trace b
IsForOpening trace (Began u kind) = ⊥
IsForOpening trace (Waits u owners) = ⊥
IsForOpening trace (Ended u Victim) = ⊥
IsForOpening trace (Refused r) = ⊥
IsForOpening trace (Armed pairs) = ⊥
IsForOpening trace (Shown items) = ⊥
IsForOpening trace (Released bs) = ⊥
IsForOpening trace Ready = open_units trace ≡ []
IsForOpening trace (Early bs) = open_units trace ≡ []
IsForOpening trace e = ⊤

abbrev pub Opens : Trace → Event → Type 0
Opens trace e = phase trace ≡ Opening → IsForOpening trace e

pub record IsContinued (trace : Trace) : Type 0 where
  pub accepts : Each AcceptsDue trace
  pub finishes : Each FinishesDue trace
  pub goes_along : Each GoesAlong trace
  pub opens : Each Opens trace
