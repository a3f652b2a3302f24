-- The printed answers are those of one unit at a time, in the order of commits.
use Rattle.std.specs.Option.{option_or}
use Rattle.salt_model.specs.After.{run_of}
use Rattle.salt_model.specs.Trace.{Trace}
use Rattle.salt_model.specs.Units.{answers_of, is_open}
use Rattle.salt_model.specs.Everywhere.{Always, Each}
use Rattle.salt_model.specs.declared.events.Answer.{Answer}
use Rattle.salt_model.specs.declared.events.Cause.{Cause}
use Rattle.salt_model.specs.declared.events.End.TheVariants.{Branched, Cut}
use Rattle.salt_model.specs.declared.events.End.{End}
use Rattle.salt_model.specs.declared.events.Event.TheVariants.{Did, Ended}
use Rattle.salt_model.specs.declared.events.Event.{Event}
use Rattle.salt_values.specs.declared.id.Id.{Id}
use Rattle.std.specs.Prelude.{IsTrue, List, None, Option, Some, [], ⊤, ◌∷◌, ◌≡◌}

-- each open unit's answers are those of doing its statements one after another on the tables of the commits so far
abbrev pub AnswersReplay : Trace → Type 0
AnswersReplay trace = (u : Id) → IsTrue (is_open trace u) → answers_of u trace ≡ (run_of u trace).answers

abbrev pub cause_in : Answer → Option Cause
cause_in (Answer.Failed c) = Some c
cause_in a = None

-- the first cause among answers
abbrev pub cause_among : List Answer → Option Cause
cause_among [] = None
cause_among (a ∷ more) = option_or (cause_in a) (cause_among more)

-- how a unit with this cause, or with none, may end
abbrev pub FitsEnd : End → Option Cause → Type 0
FitsEnd (End.Failed c) cause = cause ≡ Some c
FitsEnd (Branched n c) cause = cause ≡ Some c
FitsEnd Cut cause = ⊤
FitsEnd end cause = cause ≡ None

-- a failed answer is a unit's last, and its end says so
abbrev pub FailsOnce : Trace → Event → Type 0
FailsOnce trace (Did u st answer) = cause_among (answers_of u trace) ≡ None
FailsOnce trace (Ended u end) = FitsEnd end (cause_among (answers_of u trace))
FailsOnce trace e = ⊤

pub record IsHonest (trace : Trace) : Type 0 where
  pub replays : Always AnswersReplay trace
  pub fails_once : Each FailsOnce trace
