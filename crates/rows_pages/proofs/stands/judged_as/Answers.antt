use Rattle.rows_pages.proofs.stands.judged_as.Goals as goal
use Rattle.std.proofs.Common.{arith}

pub set_bytes-requires : goal.set_bytes-requires
set_bytes-requires g c = omega (arith, c.in_ok-disks.ensures.new.count_is)

pub open_rows-requires-clause-known : goal.open_rows-requires-clause-known
open_rows-requires-clause-known g c = omega (arith, c.in_ok-set_bytes.ensures.ok.shape.count, c.in_ok-disks.ensures.new.count_is)

pub rows_are-requires : goal.rows_are-requires
rows_are-requires g c = let o = c.in_ok-store.ensures.opened in record { dev = 0; named = _; t = o.0; is = o.1 }
