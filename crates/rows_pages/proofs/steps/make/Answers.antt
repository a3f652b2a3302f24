use Rattle.rows_pages.proofs.Synced.{stands_then}
use Rattle.rows_pages.proofs.steps.make.Goals as goal
use Rattle.salt_disk.specs.MemDisks.{seen}
use Rattle.salt_model.specs.Tables.{with_changes}

pub returns-clause-stands : goal.returns-clause-stands
returns-clause-stands c = stands_then c.apply.result (seen c.args.disks.now) (seen c.apply.new.disks) c.args.store.now c.apply.new.self (with_changes _) c.apply.ensures.rows c.requires.stands
