use Rattle.salt_devices.proofs.Standing.{callable_still}
use Rattle.salt_devices.proofs.Within.{unchanged_within}
use Rattle.salt_devices.proofs.devices.DevicesStorage.reject.Goals as goal
use Rattle.salt_devices.specs.Holding.{setup_in}

pub returns-clause-able : goal.returns-clause-able
returns-clause-able g c = callable_still _ _ _ _ (g.D.Disks.view c.args.disks.now) (g.D.Disks.view c.reject.new.disks) c.reject.ensures.unchanged c.requires.able

pub returns-clause-within : goal.returns-clause-within
returns-clause-within g c = unchanged_within (g.D.Disks.view c.args.disks.now) (g.D.Disks.view c.reject.new.disks) (setup_in c.args.self.now.shape c.args.self.now.over_net) c.reject.ensures.unchanged
