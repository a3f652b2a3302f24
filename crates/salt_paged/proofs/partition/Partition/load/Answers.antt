use Rattle.salt_model.specs.Tables.{Tables}
use Rattle.salt_paged.proofs.Standing.{log_same, moved}
use Rattle.salt_partition.proofs.Steps.{unless}
use Rattle.salt_paged.proofs.partition.Partition.load.Goals as goal
use Rattle.salt_paged.specs.Partitions.{IsPartition}
use Rattle.salt_rows.specs.Stores.{IsRowStore}
use Rattle.salt_stands.specs.Partition.{pages_device, part_tables}
use Rattle.std.proofs.Common.{refl}
use Rattle.std.specs.Result.{result_err}

pub load-requires : goal.load-requires
load-requires g c = let r = c.requires in record { dev = pages_device r.p; named = r.v.log.header.sides; t = part_tables r.applied r.v.log r.v.rows; is = r.is.rows }

pub returns-clause-rows : goal.returns-clause-rows
returns-clause-rows g c p v applied is told = c.load.ensures.rows (pages_device p) v.log.header.sides (part_tables applied v.log v.rows) is.rows told

pub returns-clause-stands : goal.returns-clause-stands
returns-clause-stands g c p v applied is =
    let d = g.D.Disks.view c.args.disks.now in
    let e = g.D.Disks.view c.load.new.disks in
    let x = c.args.self.now in
    let y = record x { rows = c.load.new.self } in
    let t : Tables = part_tables applied v.log v.rows in
    unless d e (result_err c.load.result) (IsRowStore e c.load.new.self (pages_device p) v.log.header.sides t) (IsPartition e y p v applied) c.load.ensures.kept (c.load.ensures.stands (pages_device p) v.log.header.sides t is.rows)
    (λ same store. moved d e x y p v applied v.log.prepared is c.load.ensures.kept.shape same refl refl refl refl refl (log_same d e x p v applied v.log.prepared is c.load.ensures.kept.shape same) store)
