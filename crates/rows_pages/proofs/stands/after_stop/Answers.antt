use Rattle.rows_pages.proofs.Synced.{unchanged}
use Rattle.rows_pages.proofs.stands.after_stop.Goals as goal
use Rattle.salt_disk.specs.MemDisks.{seen}
use Rattle.std.proofs.Common.{arith}

pub first_header-requires : goal.first_header-requires
first_header-requires c = omega (arith, c.in_ok-disks.ensures.new.count_is)

pub second_header-second-requires : goal.second_header-second-requires
second_header-second-requires c = unchanged (seen c.first_header.new.disks) (seen c.arm.new.self) c.in_ok-store.store c.in_ok-arm.ensures.kept c.in_ok-store.ensures.store

pub reopened-requires-clause-known : goal.reopened-requires-clause-known
reopened-requires-clause-known c = omega (arith, c.restart.ensures.restarted.shape.count, c.second_header-second.ensures.count, c.in_ok-arm.ensures.kept.shape.count, c.in_ok-store.ensures.count, c.in_ok-disks.ensures.new.count_is)
