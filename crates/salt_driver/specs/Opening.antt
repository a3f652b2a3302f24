-- How an engine is opened, at first and behind a fall.
use Rattle.salt_ast.specs.declared.lines.Line.TheVariants.{Nothing}
use Rattle.law_states.specs.Points.{Point}
use Rattle.law_states.specs.States.{After, State, started}
use Rattle.salt_model.specs.Kept.{Kept}
use Rattle.salt_model.specs.Phases.{Fallen}
use Rattle.salt_model.specs.Trace.{Start, Trace, from, story_of, ◌says◌}
use Rattle.salt_model.specs.declared.events.Event.TheVariants.{Down, Opened}
use Rattle.salt_model.specs.declared.events.Event.{Event}
use Rattle.salt_model.specs.declared.events.Why.TheVariants as why
use Rattle.salt_model.specs.declared.events.Why.{Why}
use Rattle.law_openings.specs.Openings.{Opens}
use Rattle.salt_stands.specs.Stands.{are_spent}
use Rattle.salt_driver.specs.Standing.{IsOpeningAt}
use Rattle.salt_storage.specs.Answers.{IsLater}
use Rattle.salt_storage.specs.Storing.{IsFound, IsSoundKept}
use Rattle.salt_storage.specs.Writing.{FindsNoMore, OfOpening, ToWrite}
use Rattle.salt_storage.specs.declared.found.Found.{Found}
use Rattle.salt_storage.specs.declared.halt.Halt.TheVariants.{DiskFault, Stopped}
use Rattle.salt_storage.specs.declared.halt.Halt.{Halt}
use Rattle.salt_storage.specs.OpenErr.TheVariants as opening
use Rattle.salt_storage.specs.OpenErr.TheVariants.{NotSalt, NumbersSpent, OtherShape}
use Rattle.salt_storage.specs.OpenErr.{OpenErr}
use Rattle.std.specs.Prelude.{Bool, IsSome, IsTrue, List, None, Option, Some, false, suc, true, zero, ℕ, [], ⊤, ◌++◌, ◌+◌, ◌-◌, ◌<◌, ◌∷◌, ◌≡◌, ◌≤◌, ◌⊎◌}

-- the point of a run that has begun, but was not opened
abbrev pub unopened_point : Start → Point
unopened_point start = record { state = started start; next = None; flight = None }

-- the point of a run that fell at a point
pub record IsFallenFrom (p q : Point) : Type 0 where
  pub why : Why
  pub after : After (Down why) p.state q.state
  pub flight : q.flight ≡ p.flight

-- A run that fell at this point is opened: the boot is above the last one, but not by more than the openings that failed; the decision
-- number is the last one, or that of the flight; and the numbers that it goes on from are not spent.
pub record HasOpened (room : ℕ) (p : Point) : Type 0 where
  pub boot : ℕ
  pub number : ℕ
  pub point : Point
  pub opens : Opens boot number p point
  pub above : p.state.units.kept.boot < boot
  pub most : boot ≤ p.state.units.kept.boot + (room + 1)
  pub stands_for : (number ≡ p.state.units.kept.decisions) ⊎ (IsSome p.flight × (number ≡ p.state.units.kept.decisions + 1))
  pub unspent : are_spent (boot - 1) number ≡ false

-- by an engine, which tells it
pub record OpensAt (stands_for : Option Event → State → Type 0) (room : ℕ) (p : Point) (story : List Event)
    (next : Event) (told : List Event) : Type 0 where
  pub has : HasOpened room p
  pub stands : IsOpeningAt stands_for (Some next) has.point
  pub tells : told ≡ story ++ Opened has.boot has.number ∷ []

-- The numbers of a run that fell at this point are spent: the boot is the last one, or later by no more than the openings that failed;
-- and the decision number is the last one, or that of the flight.
pub record AreSpentAt (room : ℕ) (p : Point) (boot decisions : ℕ) : Type 0 where
  pub spent : are_spent boot decisions ≡ true
  pub least : p.state.units.kept.boot ≤ boot
  pub most : boot ≤ p.state.units.kept.boot + room
  pub stands_for : (decisions ≡ p.state.units.kept.decisions) ⊎ (IsSome p.flight × (decisions ≡ p.state.units.kept.decisions + 1))

-- how its opening may fail: by spent numbers, or halted
abbrev pub MayFailAt : ℕ → Point → OpenErr → Type 0
MayFailAt room p (NotSalt dev) = ⊥
MayFailAt room p (OtherShape kept asked) = ⊥
MayFailAt room p (NumbersSpent boot decisions) = AreSpentAt room p boot decisions
MayFailAt room p e = ⊤

-- the start of a run over what is kept: whether it can be stopped, whether openings may be early, and whether commits go over messages
abbrev pub start_over : Kept → (can_stop early over_net : Bool) → Start
start_over k can_stop early over_net = record { kept = k; can_stop = can_stop; early = early; over_net = over_net }

-- a run in which nothing is told but that it fell, and this is kept
pub record IsUnopened (k : Kept) (stoppable can_early over : Bool) (p : Point) : Type 0 where
  pub fallen : p.state.units.phase ≡ Fallen
  pub kept : p.state.units.kept ≡ k
  pub line : p.state.units.line ≡ Nothing
  pub units : p.state.units.units ≡ []
  pub named : p.state.units.named ≡ []
  pub owes : p.state.units.owes ≡ false
  pub flight : p.flight ≡ None
  pub can_stop : p.state.can_stop ≡ stoppable
  pub early : p.state.units.early ≡ can_early
  pub over_net : p.state.over_net ≡ over

-- What an opening has found at first may be kept, and where the disks tell it is held; its numbers are not spent.
pub record FindsFirst (told : Bool) (finds holds : Kept → Type 0) (x : Found) : Type 0 where
  pub kept : Kept
  pub is : IsFound x kept
  pub found : finds kept
  pub holding : IsTrue told → holds kept
  pub sound : IsSoundKept kept
  pub unspent : are_spent x.boot x.decisions ≡ false

-- a run over that, in which nothing is told but that it fell, can be opened
abbrev pub IsOpenedFirst : (can_reopen_at : ℕ → Point → Type 0) → Kept → (can_stop early over_net : Bool) → Type 0
IsOpenedFirst can_reopen_at k can_stop early over_net = (p : Point) → IsUnopened k can_stop early over_net p → can_reopen_at 0 p

-- the halt by which a run falls
abbrev pub halt_of : Why → Halt
halt_of why.Stopped = Stopped
halt_of why.Fault = DiskFault

-- a run that fell so often by stops, and was not opened yet
abbrev pub fallen_often : Start → ℕ → Trace
fallen_often start zero = from start
fallen_often start (suc times) = fallen_often start times says Down why.Stopped

-- nothing is told yet but that
abbrev pub IsUnfound : List Event → Type 0
IsUnfound story = (times : ℕ) × ((start : Start) → story_of (fallen_often start times) ≡ story)

-- nothing was found yet, and the run has fallen: what is refused or found now would have been before
pub record FallsUnfound (old_refuses : OpenErr → Type 0) (old_finds : Kept → Type 0) (refuses : OpenErr → Type 0) (finds : Kept → Type 0) (story told : List Event) : Type 0 where
  pub less : FindsNoMore old_refuses old_finds refuses finds
  pub falls : told ≡ story ++ Down why.Stopped ∷ []

-- Nothing was found: it was refused, or memory ran out as the fall was told; behind a stop only spent numbers or a halt refuse it.
-- Where a device was full, a first opening was to be written there. What is refused or found now would have been before.
pub record FailsToFind (old_refuses : OpenErr → Type 0) (old_finds : Kept → Type 0) (refuses : OpenErr → Type 0) (finds : Kept → Type 0)
    (fills : ToWrite → ℕ → Type 0) (e : OpenErr) (story : List Event) : Type 0 where
  pub refused : old_refuses e ⊎ (e ≡ opening.Memory)
  pub empty : (story ≡ []) ⊎ IsLater e
  pub full : (dev : ℕ) → e ≡ opening.Full dev → fills OfOpening dev
  pub less : FindsNoMore old_refuses old_finds refuses finds
