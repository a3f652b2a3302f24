use Rattle.salt_devices.proofs.Standing.{found_again, left_again, rested_again, starts}
use Rattle.salt_devices.proofs.Within.{restarted_within}
use Rattle.salt_devices.proofs.devices.DevicesStorage.restart.Goals as goal
use Rattle.salt_devices.specs.Holding.{setup_in}

pub returns-clause-settled : goal.returns-clause-settled
returns-clause-settled g c = starts _ _ c.args.self.now.store _ (g.D.Disks.view c.args.disks.now) (g.D.Disks.view c.restart.new.self) c.restart.ensures c.requires.can

pub returns-clause-still : goal.returns-clause-still
returns-clause-still g c = found_again _ _ c.args.self.now.store _ (g.D.Disks.view c.args.disks.now) (g.D.Disks.view c.restart.new.self) c.restart.ensures c.requires.can

pub returns-clause-rests : goal.returns-clause-rests
returns-clause-rests g c k h = rested_again _ _ c.args.self.now.store _ (g.D.Disks.view c.args.disks.now) (g.D.Disks.view c.restart.new.self) c.restart.ensures c.requires.can k h

pub returns-clause-leaves : goal.returns-clause-leaves
returns-clause-leaves g c a b h = left_again _ _ _ _ (g.D.Disks.view c.args.disks.now) (g.D.Disks.view c.restart.new.self) c.restart.ensures c.requires.can c.args.self.now.numbers c.known-self.result a b c.known-self.ensures h

pub returns-clause-within : goal.returns-clause-within
returns-clause-within g c = restarted_within (g.D.Disks.view c.args.disks.now) (g.D.Disks.view c.restart.new.self) (setup_in c.args.self.now.shape c.args.self.now.over_net) c.restart.ensures
