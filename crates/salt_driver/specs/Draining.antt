-- How an opening is drained: what is left of it is told from a point on, and counted.
use Rattle.law_states.specs.Points.{TraceStep, Moves, Point, Runs, Say, told_by}
use Rattle.salt_model.specs.Phases.{Opening}
use Rattle.salt_model.specs.Words.{Every}
use Rattle.salt_model.specs.declared.events.Event.TheVariants.{Began}
use Rattle.salt_model.specs.declared.events.Event.{Event}
use Rattle.salt_model.specs.declared.events.Flight.{Flight}
use Rattle.law_openings.specs.Draining.{statements_at}
use Rattle.salt_model.specs.Rests.{statements_in, statements_told}
use Rattle.salt_driver.specs.Devices.{OnDevices}
use Rattle.salt_driver.specs.Standing.{BreaksAt, IsInside}
use Rattle.salt_storage.specs.declared.halt.Halt.{Halt}
use Rattle.std.specs.Prelude.{List, Option, [], ℕ, ◌++◌, ◌+◌, ◌∷◌, ◌≡◌, ◌≤◌, ◌⊎◌}

-- the units that events begin
abbrev pub units_in : Event → ℕ
units_in (Began u kind) = 1
units_in e = 0

abbrev pub units_told : List Event → ℕ
units_told [] = 0
units_told (e ∷ es) = units_in e + units_told es

-- A step was taken for the statement at hand behind this event, or for want of memory none.
abbrev pub MayTick : (p : Point) → Event → (story told : List Event) → (old new : ℕ) → Type 0
MayTick p e story told old new = (new ≡ old) ⊎ ((told ≡ story ++ e ∷ []) × ((q : Point) × Moves (Say e) p q × (new ≡ old + statements_at q.next)))

-- The steps are as many as the statements that are told, but for the one that was at hand at first, and for so many at the end that
-- are done and not told.
pub record CountsSteps (first : Event) (story told : List Event) (old new untold : ℕ) : Type 0 where
  pub more : List Event
  pub grows : told ≡ story ++ more
  pub ticks : new + statements_in first ≡ old + statements_told more + untold

-- at most one is done and not told
abbrev pub CountsOff : Event → (story told : List Event) → (old new : ℕ) → Type 0
CountsOff first story told old new = (untold : ℕ) × (untold ≤ 1) × CountsSteps first story told old new untold

-- an opening breaks off in telling an event, to which it has come from a point by moves of it
pub record BreaksWithin (devices : OnDevices) (flight : Option Flight) (halt : Halt) (p : Point) (story told : List Event) : Type 0 where
  pub moves : List TraceStep
  pub point : Point
  pub event : Event
  pub before : List Event
  pub runs : Runs p moves point
  pub inside : Every IsInside moves
  pub opening : point.state.units.phase ≡ Opening
  pub tells : before ≡ story ++ told_by moves
  pub breaks : BreaksAt devices flight halt point event before told
