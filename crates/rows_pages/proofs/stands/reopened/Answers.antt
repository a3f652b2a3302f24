use Rattle.rows_pages.proofs.Synced.{opened_stands}
use Rattle.rows_pages.proofs.stands.reopened.Goals as goal
use Rattle.salt_bytes.specs.Spellable.{Every}
use Rattle.salt_disk.specs.MemDisks.{seen}
use Rattle.salt_rows.specs.Stores.{IsSide}
use Rattle.std.proofs.Common.{subst, sym, true}

pub open_rows-requires-clause-sides : goal.open_rows-requires-clause-sides
open_rows-requires-clause-sides c = subst (Every IsSide) (sym c.as_slice-sides.ensures) c.requires.sides

pub returns : goal.returns
returns c = opened_stands c.open_rows.result (seen c.args.disks.now) (seen c.open_rows.new.disks) true 0 _ c.open_rows.ensures.opened
