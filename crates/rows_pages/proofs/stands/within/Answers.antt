use Rattle.rows_pages.proofs.stands.within.Goals as goal
use Rattle.std.proofs.Common.{arith}

pub first_header-requires : goal.first_header-requires
first_header-requires c = omega (arith, c.in_ok-disks.ensures.new.count_is)

pub reopened-requires-clause-known : goal.reopened-requires-clause-known
reopened-requires-clause-known c = omega (arith, c.second_header-second.ensures.count, c.in_ok-store.ensures.count, c.in_ok-disks.ensures.new.count_is)
