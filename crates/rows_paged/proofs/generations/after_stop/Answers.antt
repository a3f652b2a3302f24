use Rattle.rows_paged.proofs.Staged.{stands_on}
use Rattle.rows_paged.proofs.generations.after_stop.Goals as goal
use Rattle.salt_disk.specs.MemDisks.{seen}
use Rattle.std.proofs.Common.{arith}

pub begun-requires-clause-known : goal.begun-requires-clause-known
begun-requires-clause-known c = omega (arith, c.in_ok-disks.ensures.new.count_is)

pub begun-requires-clause-settled : goal.begun-requires-clause-settled
begun-requires-clause-settled c dev low = c.in_ok-disks.ensures.new.settled dev

pub checkpointed-requires-clause-known : goal.checkpointed-requires-clause-known
checkpointed-requires-clause-known c = omega (arith, c.in_ok-arm.ensures.kept.shape.count, c.in_ok-part.ensures.count, c.in_ok-disks.ensures.new.count_is)

pub checkpointed-requires-clause-stands : goal.checkpointed-requires-clause-stands
checkpointed-requires-clause-stands c = stands_on (seen c.begun.new.disks) (seen c.arm.new.self) c.in_ok-part.part c.in_ok-arm.ensures.kept c.in_ok-part.ensures.stands
