use Rattle.rows_pages.proofs.Synced.{named_now, written_sides}
use Rattle.rows_pages.proofs.stands.first_header.Goals as goal
use Rattle.salt_disk.specs.MemDisks.{seen}
use Rattle.salt_rows.specs.Stores.{StandsOnPages, with_named}
use Rattle.std.proofs.Common.{List, subst, sym, ℕ}

pub first_rows-requires : goal.first_rows-requires
first_rows-requires c = let o = c.in_ok-store.ensures.opened in record { dev = 0; named = _; t = o.0; is = o.1 }

pub returns-clause-store : goal.returns-clause-store
returns-clause-store c =
    let d = seen c.name_all.new.disks in
    let x = c.name_all.new.store in
    subst (StandsOnPages d) (sym c.named_as.ensures) (subst (λ (sides : List ℕ). StandsOnPages d (with_named x sides)) (sym c.in_ok-copy.ensures) (named_now d x c.in_ok-sides.sides c.in_ok-sides.ensures.written))

pub returns-clause-sides : goal.returns-clause-sides
returns-clause-sides c = written_sides (seen c.name_all.new.disks) c.name_all.new.store c.in_ok-sides.sides c.in_ok-sides.ensures.written
