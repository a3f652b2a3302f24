-- The point behind the end of an opening.
use Rattle.law_states.specs.Points.{IsIdle, Moves, Point, Say}
use Rattle.law_states.specs.States.{State}
use Rattle.salt_model.specs.declared.events.Event.{Event}
use Rattle.std.specs.Prelude.{◌≡◌}

-- It goes there by this event, and nothing is missing of it: the units are those of the state that the recovery stands for, and this is so of what
-- the event makes of all.
pub record EndsAt (e : Event) (p : Point) (t : State) (goes : State → Type 0) : Type 0 where
  pub point : Point
  pub moves : Moves (Say e) p point
  pub idle : IsIdle point
  pub units : point.state.units ≡ t.units
  pub serves : goes point.state
