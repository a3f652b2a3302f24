use Rattle.salt_model.specs.Tables.{Tables}
use Rattle.salt_paged.proofs.Standing.{log_same, moved}
use Rattle.salt_partition.proofs.Steps.{unless}
use Rattle.salt_paged.proofs.partition.Partition.get.Goals as goal
use Rattle.salt_paged.specs.Partitions.{IsPartition}
use Rattle.salt_rows.specs.Stores.{IsRowStore}
use Rattle.salt_stands.specs.Partition.{pages_device, part_tables}
use Rattle.std.proofs.Common.{refl}
use Rattle.std.specs.Result.{result_err}

pub get-requires : goal.get-requires
get-requires g c = let r = c.requires in record { dev = pages_device r.p; named = r.v.log.header.sides; t = part_tables r.applied r.v.log r.v.rows; is = r.is.rows }

pub returns-clause-row : goal.returns-clause-row
returns-clause-row g c p v applied is told = c.get.ensures.row (pages_device p) v.log.header.sides (part_tables applied v.log v.rows) is.rows told

pub returns-clause-stands : goal.returns-clause-stands
returns-clause-stands g c p v applied is =
    let d = g.D.Disks.view c.args.disks.now in
    let e = g.D.Disks.view c.get.new.disks in
    let x = c.args.self.now in
    let y = record x { rows = c.get.new.self } in
    let t : Tables = part_tables applied v.log v.rows in
    unless d e (result_err c.get.result) (IsRowStore e c.get.new.self (pages_device p) v.log.header.sides t) (IsPartition e y p v applied) c.get.ensures.kept (c.get.ensures.stands (pages_device p) v.log.header.sides t is.rows)
    (λ same store. moved d e x y p v applied v.log.prepared is c.get.ensures.kept.shape same refl refl refl refl refl (log_same d e x p v applied v.log.prepared is c.get.ensures.kept.shape same) store)
