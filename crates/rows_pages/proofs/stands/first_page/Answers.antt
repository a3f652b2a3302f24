use Rattle.rows_pages.proofs.stands.first_page.Goals as goal
use Rattle.std.proofs.Common.{arith}

pub first_header-requires : goal.first_header-requires
first_header-requires c = omega (arith, c.in_ok-disks.ensures.new.count_is)
