use Rattle.rows_pages.proofs.Synced.{sides_then}
use Rattle.rows_pages.proofs.steps.second_header.Goals as goal
use Rattle.salt_disk.specs.MemDisks.{seen}

pub returns-clause-sides : goal.returns-clause-sides
returns-clause-sides c = sides_then c.name_all.result (seen c.name_all.new.disks) c.name_all.new.store c.name_all.ensures.written
