use Rattle.rows_pages.proofs.Synced.{StandsOn}
use Rattle.rows_pages.proofs.steps.long_rows.Given as goal
use Rattle.salt_disk.specs.MemDisks.{seen}

abbrev pub invariant-loop-key : goal.invariant-loop-key
invariant-loop-key l = StandsOn (seen l.fn.disks) (seen l.disks) l.store
