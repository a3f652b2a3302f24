use Rattle.rows_pages.proofs.Synced.{written_sides}
use Rattle.rows_pages.proofs.frames.ends_again.Goals as goal
use Rattle.salt_disk.specs.MemDisks.{seen}
use Rattle.salt_disk.specs.declared.memory.MemDisks.{MemDisks}
use Rattle.std.proofs.Common.{ap, arith}

pub open_rows-requires-clause-known : goal.open_rows-requires-clause-known
open_rows-requires-clause-known c = omega (arith, ap (λ (m : MemDisks). (seen m).count) c.in_ok-fail_read.ensures.ok, c.in_ok-disks.ensures.new.count_is)

pub long_rows-requires : goal.long_rows-requires
long_rows-requires c = let o = c.in_ok-store.ensures.opened in record { dev = 0; named = _; t = o.0; is = o.1 }

pub reopened-requires-clause-known : goal.reopened-requires-clause-known
reopened-requires-clause-known c =
    omega (arith, c.in_ok-sides.ensures.count, c.in_ok-long_rows.ensures.count, c.in_ok-store.ensures.kept.shape.count, ap (λ (m : MemDisks). (seen m).count) c.in_ok-fail_read.ensures.ok, c.in_ok-disks.ensures.new.count_is)

pub reopened-requires-clause-sides : goal.reopened-requires-clause-sides
reopened-requires-clause-sides c = written_sides (seen c.name_all.new.disks) c.name_all.new.store c.in_ok-sides.sides c.in_ok-sides.ensures.written
