use Rattle.salt_devices.proofs.Netted.{new_armed, sent_armed, still_sent}
use Rattle.salt_devices.proofs.Standing.{armed_callable, pairs_armed}
use Rattle.salt_devices.proofs.devices.DevicesStorage.arm_net.Goals as goal

pub returns-in-Some-clause-ok : goal.returns-in-Some-clause-ok
returns-in-Some-clause-ok g c = sent_armed c.args.self.now.store c.in-Some.store c.arm_net.new.self c.args.pairs.now c.arm_net.result c.in-Some.is c.arm_net.ensures.ok

pub returns-in-Some-clause-err : goal.returns-in-Some-clause-err
returns-in-Some-clause-err g c = still_sent c.args.self.now.store c.in-Some.store c.arm_net.new.self c.arm_net.result c.in-Some.is c.arm_net.ensures.err

pub returns-in-Some-clause-holds : goal.returns-in-Some-clause-holds
returns-in-Some-clause-holds g c k h = pairs_armed _ _ _ _ _ c.in-Some.store c.in-Some.is c.arm_net.new.self c.arm_net.ensures.rest k h

pub returns-in-Some-clause-able : goal.returns-in-Some-clause-able
returns-in-Some-clause-able g c h = armed_callable _ _ _ _ _ c.in-Some.store c.in-Some.is c.arm_net.new.self c.arm_net.ensures.rest c.arm_net.ensures.rests c.arm_net.ensures.new h

pub returns-in-Some-clause-is_new : goal.returns-in-Some-clause-is_new
returns-in-Some-clause-is_new g c u new = new_armed _ c.args.self.now.store c.in-Some.store c.arm_net.new.self u c.in-Some.is c.arm_net.ensures.new new
