use Rattle.rows_pages.proofs.steps.rows_in_order.Given as goal
use Rattle.salt_disk.specs.MemDisks.{seen}
use Rattle.salt_rows.specs.Stores.{StandsOnPages}

abbrev pub invariant-loop-count : goal.invariant-loop-count
invariant-loop-count l = StandsOnPages (seen l.disks) l.store
