-- How a run falls in an opening and while it is down, and how it is opened again, as moves of its point.
use Rattle.law_states.specs.Nexts.{flight_next, said_next}
use Rattle.law_states.specs.Points.{Point}
use Rattle.law_states.specs.Readings.{WatchReading}
use Rattle.law_states.specs.States.{After, State, named_by, net_by}
use Rattle.law_states.specs.Steps.{units_after}
use Rattle.law_states.specs.Told.{at_devices_in}
use Rattle.law_states.specs.Watches.{Watch}
use Rattle.salt_model.specs.Phases.{Fallen, Opening}
use Rattle.salt_model.specs.declared.events.Event.{Event}
use Rattle.salt_model.specs.declared.events.Event.TheVariants.{Down, Opened}
use Rattle.salt_model.specs.declared.events.Why.TheVariants.{Stopped}
use Rattle.std.specs.Prelude.{None, Some, true, ℕ, ◌≡◌}

-- a stop in an opening, where what comes next is at the devices
pub record FallsInOpening (old new : Point) : Type 0 where
  pub opening : old.state.units.phase ≡ Opening
  pub event : Event
  pub comes : old.next ≡ Some event
  pub devices : at_devices_in old.state.units event ≡ true
  pub after : After (Down Stopped) old.state new.state
  pub next : new.next ≡ None
  pub flight : new.flight ≡ old.flight

-- a stop while the run is down, before it is opened
pub record FallsAgain (old new : Point) : Type 0 where
  pub fallen : old.state.units.phase ≡ Fallen
  pub after : After (Down Stopped) old.state new.state
  pub next : new.next ≡ None
  pub flight : new.flight ≡ old.flight

-- a run that is down is opened, with this boot and this decision number
pub record Opens (boot n : ℕ) (old new : Point) : Type 0 where
  pub fallen : old.state.units.phase ≡ Fallen
  pub after : After (Opened boot n) old.state new.state
  pub read : WatchReading new.state.watch
  pub next : new.next ≡ said_next (Opened boot n) old.state new.state read old.flight
  pub flight : new.flight ≡ flight_next (Opened boot n) old.flight new.next

-- an event leaves a state behind it, in which this is watched
pub record Leaves (e : Event) (old : State) : Type 0 where
  pub watch : Watch
  pub after : After e old (record {
    units = units_after e old.units;
    watch = watch;
    names = named_by e old.names;
    can_stop = old.can_stop;
    over_net = old.over_net;
    net = net_by e old.units old.net;
  })
