-- The rows of a partition have their keys.
use Rattle.salt_bytes.specs.Page.{TableRow}
use Rattle.salt_bytes.specs.Partition.{Prepared}
use Rattle.salt_bytes.specs.Spellable.{Every}
use Rattle.salt_disk.specs.Disks.{View}
use Rattle.salt_eval.specs.Scans.{IsKeyed}
use Rattle.salt_model.specs.Tables.{no_rows}
use Rattle.salt_paged.specs.Partitions.{IsPartition}
use Rattle.salt_paged.specs.declared.partition.Partition.{Partition}
use Rattle.salt_partition.proofs.Keyed.{changes_keyed, decided_keyed, every_append, units_keyed}
use Rattle.salt_partition.specs.Contents.{ArePut, HasKey}
use Rattle.salt_stands.specs.Partition.{decided_changes, part_tables}
use Rattle.salt_stands.specs.Pieces.{PartView}
use Rattle.salt_stands.specs.Tables.{change_of_row}
use Rattle.salt_values.specs.declared.id.Id.{Id}
use Rattle.std.proofs.Common.{List, [], refl, ℕ, ◌++◌, ◌∷◌}
use Rattle.std.specs.Prelude.{map}

-- the rows of pages have their keys
pub pages_keyed : (rows : List TableRow) → Every HasKey (map change_of_row rows)
pages_keyed [] = tt
pages_keyed (r ∷ rows) = (refl, pages_keyed rows)

-- of a view, with the changes of units
pub changed_keyed : (v : PartView) (us : List Id) (ps : List Prepared) → Every HasKey v.rows → Every ArePut ps → Every HasKey (v.rows ++ decided_changes us ps)
changed_keyed v us ps keyed put = every_append HasKey v.rows (decided_changes us ps) keyed (decided_keyed us ps (units_keyed ps put))

pub part_keyed : (d : View) (x : Partition) (p : ℕ) (v : PartView) (applied : List Id) → IsPartition d x p v applied → IsKeyed (part_tables applied v.log v.rows)
part_keyed d x p v applied is = changes_keyed (v.rows ++ decided_changes applied v.log.prepared) no_rows (changed_keyed v applied v.log.prepared is.keyed is.put) (λ q. tt)
