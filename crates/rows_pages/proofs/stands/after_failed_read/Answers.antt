use Rattle.rows_pages.proofs.stands.after_failed_read.Goals as goal
use Rattle.salt_disk.specs.MemDisks.{seen}
use Rattle.salt_disk.specs.declared.memory.MemDisks.{MemDisks}
use Rattle.std.proofs.Common.{ap, arith}

pub first_header-requires : goal.first_header-requires
first_header-requires c = omega (arith, ap (λ (m : MemDisks). (seen m).count) c.in_ok-fail_read.ensures.ok, c.in_ok-disks.ensures.new.count_is)
