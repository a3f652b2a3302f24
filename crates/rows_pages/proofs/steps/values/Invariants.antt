use Rattle.rows_pages.proofs.steps.values.Given as goal
use Rattle.salt_disk.specs.MemDisks.{seen}
use Rattle.salt_rows.specs.Stores.{StandsOnPages}

abbrev pub invariant-loop-key : goal.invariant-loop-key
invariant-loop-key l = StandsOnPages (seen l.disks) l.store
