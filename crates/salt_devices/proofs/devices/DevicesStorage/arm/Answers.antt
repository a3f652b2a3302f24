use Rattle.salt_devices.proofs.Standing.{armed, callable_still, stays_new}
use Rattle.salt_devices.proofs.Within.{unchanged_within}
use Rattle.salt_devices.proofs.devices.DevicesStorage.arm.Goals as goal
use Rattle.salt_devices.specs.Holding.{setup_in}

pub returns-clause-able : goal.returns-clause-able
returns-clause-able g c h = callable_still _ _ _ _ (g.D.Disks.view c.args.disks.now) (g.D.Disks.view c.arm.new.self) c.arm.ensures.kept h

pub returns-clause-holds : goal.returns-clause-holds
returns-clause-holds g c k h = armed _ _ _ _ (g.D.Disks.view c.args.disks.now) (g.D.Disks.view c.arm.new.self) c.arm.ensures.kept k h

pub returns-clause-is_new : goal.returns-clause-is_new
returns-clause-is_new g c u new = (stays_new (g.D.Disks.view c.args.disks.now) (g.D.Disks.view c.arm.new.self) c.arm.ensures.kept u new.0, new.1)

pub returns-clause-within : goal.returns-clause-within
returns-clause-within g c = unchanged_within (g.D.Disks.view c.args.disks.now) (g.D.Disks.view c.arm.new.self) (setup_in c.args.self.now.shape c.args.self.now.over_net) c.arm.ensures.kept
