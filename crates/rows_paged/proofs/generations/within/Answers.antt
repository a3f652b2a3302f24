use Rattle.rows_paged.proofs.generations.within.Goals as goal
use Rattle.std.proofs.Common.{arith}

pub begun-requires-clause-known : goal.begun-requires-clause-known
begun-requires-clause-known c = omega (arith, c.in_ok-disks.ensures.new.count_is)

pub begun-requires-clause-settled : goal.begun-requires-clause-settled
begun-requires-clause-settled c dev low = c.in_ok-disks.ensures.new.settled dev

pub checkpointed-requires-clause-known : goal.checkpointed-requires-clause-known
checkpointed-requires-clause-known c = omega (arith, c.in_ok-part.ensures.count, c.in_ok-disks.ensures.new.count_is)
