use Rattle.rows_pages.proofs.Synced.{synced}
use Rattle.rows_pages.proofs.steps.name_all.Goals as goal
use Rattle.salt_disk.specs.MemDisks.{seen}
use Rattle.salt_rows.specs.Stores.{StandsOnPages}
use Rattle.std.proofs.Common.{arith}

pub checkpoint-requires : goal.checkpoint-requires
checkpoint-requires c = let s = c.requires in record { dev = s.dev; named = s.named; t = s.t; is = s.is.is }

pub sync-requires : goal.sync-requires
sync-requires c = omega (arith, c.requires.is.is.known, c.in_ok-sides.ensures.others.shape.count)

pub returns-clause-written : goal.returns-clause-written
returns-clause-written c =
    let s = c.requires in
    let d = seen c.checkpoint.new.disks in
    let x = c.checkpoint.new.self in
    let was : StandsOnPages d x = record { dev = s.dev; named = s.named; t = s.t; is = c.in_ok-sides.ensures.rows s.dev s.named s.t s.is.is } in
    record {
      stands = synced d (seen c.sync.new.self) x c.in_ok-sync.ensures.others c.in_ok-sync.ensures.bytes was;
      clean = c.in_ok-sides.ensures.clean;
      same = c.in_ok-sides.ensures.sides;
    }
