use Rattle.rows_paged.proofs.Staged.{settled_behind}
use Rattle.rows_paged.proofs.generations.checkpointed.Goals as goal
use Rattle.salt_disk.specs.MemDisks.{seen}
use Rattle.std.proofs.Common.{arith}

pub found-requires-clause-known : goal.found-requires-clause-known
found-requires-clause-known c = omega (arith, c.restart.ensures.restarted.shape.count, c.checkpoint-ended.ensures.others.shape.count, c.requires.known)

pub found-requires-clause-settled : goal.found-requires-clause-settled
found-requires-clause-settled c = settled_behind (seen c.checkpoint-ended.new.disks) (seen c.restart.new.self) c.restart.ensures.restarted
