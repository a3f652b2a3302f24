-- What calls make of a scheduler once the devices have answered: it has done the event that the state tells.
use Rattle.law_states.specs.OpenUnits.{OpenUnit, unit_named}
use Rattle.law_states.specs.Readings.{WatchReading}
use Rattle.law_states.specs.States.{State}
use Rattle.law_states.specs.Told.{commits_in, does_in, next_decision_number}
use Rattle.salt_ast.specs.declared.lines.Line.{Line}
use Rattle.salt_books.specs.Asking.{IsAskedBy}
use Rattle.salt_books.specs.Books.{AreLoaded}
use Rattle.salt_books.specs.Moves.{MovesTo}
use Rattle.salt_books.specs.Sound.{IsSoundState}
use Rattle.salt_books.specs.declared.asking.Asking.{Asking}
use Rattle.salt_books.specs.declared.coming.Coming.{Coming}
use Rattle.salt_cont.specs.Move.{Move}
use Rattle.salt_model.specs.Kept.{conts_branched, conts_committed}
use Rattle.salt_model.specs.Tables.{Tables}
use Rattle.salt_model.specs.declared.events.Cause.{Cause}
use Rattle.salt_model.specs.declared.events.End.TheVariants.{Branched}
use Rattle.salt_model.specs.declared.events.Event.TheVariants.{Ended, Waits}
use Rattle.salt_model.specs.declared.events.Event.{Event}
use Rattle.salt_model.specs.declared.events.Owner.{Owner}
use Rattle.salt_model.specs.declared.events.UnitKind.TheVariants.{Later}
use Rattle.salt_scheduler.specs.Standing.{AnswersWith, AnswersWithComing, NextTold, ServesLine, StandsBehindEvent, StandsForState}
use Rattle.salt_scheduler.specs.declared.scheduler.Scheduler.{Scheduler}
use Rattle.salt_values.specs.declared.id.Id.{Id}
use Rattle.std.specs.Prelude.{List, Some, ℕ, ◌≡◌}

-- the statement that a unit asks for, over these rows
abbrev pub HasDone : Asking → Tables → (old new : Scheduler) → Event → Type 0
HasDone a rows old new e = (s : State) (o : OpenUnit) → StandsForState old s → IsSoundState s → IsAskedBy a s.units o → AreLoaded a.reach rows s.units.kept.tables →
    AnswersWith s (Some (does_in s.units o a.statement)) new (Some e)

-- it waits in its place
abbrev pub HasWaited : Asking → List Owner → Line → (old new : Scheduler) → Event → Type 0
HasWaited a owners now old new e = (s : State) (o : OpenUnit) → StandsForState old s → ServesLine now s → IsAskedBy a s.units o → AnswersWith s (Some (Waits a.unit owners)) new (Some e)

-- the commit of a unit by the next decision, of this number, with this move of its program
abbrev pub HasCommitted : Id → Move → (number : ℕ) → (old new : Scheduler) → Event → Type 0
HasCommitted u made number old new e = (s : State) (o : OpenUnit) → number ≡ next_decision_number s.units → StandsForState old s → IsSoundState s → unit_named u s.units.units ≡ Some o →
    MovesTo made s.units.kept (conts_committed s.units.kept (next_decision_number s.units) o.kind o.vars) → AnswersWith s (Some (commits_in s.units o)) new (Some e)

-- the branch of a unit of a later part
abbrev pub HasBranched : Id → (base : Id) → Cause → Move → (number : ℕ) → (old new : Scheduler) → Event → Type 0
HasBranched u base cause made number old new e = (s : State) (o : OpenUnit) (part : ℕ) → number ≡ next_decision_number s.units → StandsForState old s → IsSoundState s → unit_named u s.units.units ≡ Some o → o.kind ≡ Later base part →
    MovesTo made s.units.kept (conts_branched s.units.kept o.kind) → AnswersWith s (Some (Ended u (Branched (next_decision_number s.units) cause))) new (Some e)

-- BEHIND AN EVENT it is ready for what this tells
abbrev pub ChoosesBehind : NextTold → Line → (old new : Scheduler) → Coming → Type 0
ChoosesBehind want now old new c = (s : State) (r : WatchReading s.watch) → StandsBehindEvent old s → ServesLine now s → AnswersWithComing s (want s r) new c
