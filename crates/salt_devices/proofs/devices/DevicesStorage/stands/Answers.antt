use Rattle.salt_devices.proofs.Begun.{rests_found}
use Rattle.salt_devices.proofs.Standing.{held_left, held_told, started_callable}
use Rattle.salt_devices.proofs.devices.DevicesStorage.stands.Goals as goal

pub returns-clause-told : goal.returns-clause-told
returns-clause-told g c k h = held_told _ _ _ _ _ k h

pub returns-clause-stays : goal.returns-clause-stays
returns-clause-stays g c k h = held_left _ _ _ _ _ c.args.self.now.numbers k h

pub returns-clause-able : goal.returns-clause-able
returns-clause-able g c settled = started_callable _ _ _ _ _ settled

pub returns-clause-finds : goal.returns-clause-finds
returns-clause-finds g c k settled rests = rests_found (g.D.Disks.view c.args.disks.now) c.args.self.now.shape c.args.self.now.started settled.started_now k rests
