use Rattle.salt_devices.proofs.Standing.{the_going}
use Rattle.salt_devices.proofs.devices.DevicesStorage.into_net.Goals as goal
use Rattle.salt_devices.specs.Holding.{net_in}
use Rattle.salt_net.specs.Turns.{Turning}
use Rattle.std.proofs.Common.{ap, sym, ◌∙◌}
use Rattle.std.specs.Prelude.{option_map}

pub into_net-requires : goal.into_net-requires
into_net-requires g c = (the_going _ _ _ _ _ c.in-Some.store c.in-Some.is c.requires.able).net.rests

pub returns-in-Some : goal.returns-in-Some
returns-in-Some g c k h = c.into_net.ensures ∙ ap (λ o. option_map (λ (t : Turning). t.events) (net_in o)) (sym c.in-Some.is)
