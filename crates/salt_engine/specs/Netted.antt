-- What the commits of a run have sent over messages, as the storage of an engine has it.
use Rattle.law_states.specs.OpenUnits.{UnitState}
use Rattle.law_states.specs.States.{State}
use Rattle.law_states.specs.UnitFacts.{facts_in}
use Rattle.salt_model.specs.declared.events.Event.{Event}
use Rattle.salt_net.specs.Turns.{Turning}
use Rattle.salt_stands.specs.Turning.{change_at, turned}
use Rattle.salt_storage.specs.Netted.{net_begun, net_told}
use Rattle.salt_storage.specs.Staying.{Setup}
use Rattle.salt_storage.specs.declared.found.Numbers.{Numbers}
use Rattle.std.specs.Prelude.{IfSome, None, Option, Some, map, option_map, ◌≡◌}

-- what an event makes of it, if there is one
abbrev pub net_after : Setup → Option Event → UnitState → Option Turning → Option Turning
net_after setup None s net = net
net_after setup (Some e) s net = option_map (turned setup.shape s.line s.kept.boot (map change_at (facts_in s e).changes) e) net

-- commits go over messages where those of the run do, and have sent what it has, with what the event at hand makes of that
pub record AgreesWithNet (setup : Setup) (net : Option Turning) (next : Option Event) (s : State) : Type 0 where
  pub over : s.over_net ≡ setup.over_net
  pub sent : net ≡ net_after setup next s.units (net_told setup s.net)

-- broken off: once it is found what is kept, nothing was sent since
pub record CanReopenNet (setup : Setup) (net : Option Turning) (found : Option Numbers) (s : State) : Type 0 where
  pub over : s.over_net ≡ setup.over_net
  pub begun : IfSome found (λ numbers. net ≡ net_begun setup)
