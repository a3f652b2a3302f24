-- What is to come in an opening is performed, over the recovery that has chosen it.
use Rattle.salt_ast.specs.declared.lines.Line.TheVariants.{Nothing}
use Rattle.salt_books.specs.Coming.{event_meant}
use Rattle.salt_books.specs.declared.coming.Coming.{Coming}
use Rattle.salt_engine.specs.Giving.{FitsUnits, coming_of}
use Rattle.salt_engine.specs.Performing.{IsPlayedBefore, StoredAt, is_prepared}
use Rattle.salt_engine.specs.Stored.{Stored}
use Rattle.salt_engine.specs.declared.given.Given.{Given}
use Rattle.law_states.specs.Laws.{is_of_run}
use Rattle.law_states.specs.States.{State}
use Rattle.salt_model.specs.Kept.{Kept}
use Rattle.salt_model.specs.Phases as phases
use Rattle.salt_model.specs.declared.events.Event.{Event}
use Rattle.law_openings.specs.Draining.{statements_at}
use Rattle.salt_driver.specs.Counting.{stops_armed}
use Rattle.salt_drain.specs.Follows.{comes_behind}
use Rattle.salt_drain.specs.Recovering as recovering
use Rattle.salt_drain.specs.declared.recovery.Recovery.{Recovery}
use Rattle.salt_values.specs.declared.id.Id.{Id}
use Rattle.std.specs.Prelude.{IsSome, Option, [], false, ℕ, ◌+◌, ◌≡◌, ◌⊎◌}

-- a recovery is ready for an event of its opening, over a storage that holds what its state keeps
pub record IsToOpen (holds : Kept → Type 0) (is_new : Id → Type 0) (x : Recovery) (c : Coming) (s : State) : Type 0 where
  pub played : IsPlayedBefore (event_meant s.units c) s
  pub opens : s.units.phase ≡ phases.Opening
  pub comes : IsSome (event_meant s.units c)
  pub plain : is_prepared (event_meant s.units c) ≡ false
  pub ready : recovering.IsReady x s c
  pub stored : StoredAt holds is_new c s

-- it is ready for that, and what was given for it fits
pub record CanTakeUp (x : Recovery) (g : Given) (s : State) : Type 0 where
  pub ready : recovering.IsReady x s (coming_of g)
  pub comes : IsSome (event_meant s.units (coming_of g))
  pub fits : FitsUnits g s.units
  pub recovers : recovering.IsRecovering s

-- a recovery stands for a state behind an event of an opening, and what comes behind that comes next
pub record GoesOnOpening (holds : Kept → Type 0) (is_new : Id → Type 0) (x : Recovery) (s : State) : Type 0 where
  pub played : IsPlayedBefore (comes_behind (recovering.behind_of x) s.units) s
  pub stands : recovering.StandsForState x s
  pub stored : Stored holds is_new s.units

-- of an opening behind its Opened, whatever the disks tell: it arms nothing, and is neither a fall nor an opening
abbrev pub ComesInOpening : Event → Type 0
ComesInOpening e = (is_of_run e ≡ false) × (stops_armed Nothing e ≡ [])

-- a step was taken where what was meant is a statement, or it was not come to
abbrev pub MayStep : Option Event → (old new : ℕ) → Type 0
MayStep meant old new = (new ≡ old) ⊎ (new ≡ old + statements_at meant)
