use Rattle.salt_disk.proofs.Seen.{has_limit}
use Rattle.salt_disk.proofs.memory.MemDisks.set_limit.Goals as goal

pub returns-clause-limit : goal.returns-clause-limit
returns-clause-limit c = has_limit c.args.self.now.devices.items c.limit_at.new.devices.items c.args.self.now.faults _ c.args.dev c.args.limit c.limit_at.ensures
