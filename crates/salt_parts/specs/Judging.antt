-- What stands in a partition, and fits.
use Rattle.salt_ast.specs.declared.trees.TableDef.{TableDef}
use Rattle.salt_bytes.specs.Page.{TableRow}
use Rattle.salt_eval.specs.Meets.{meets_table}
use Rattle.salt_model.specs.Kept.{Definition}
use Rattle.salt_place.specs.declared.placement.Shape.{Shape}
use Rattle.salt_stands.specs.Coordinator.{Coordinator}
use Rattle.salt_stands.specs.Fitting.{tables_defined}
use Rattle.salt_stands.specs.Partition.{part_of_key}
use Rattle.salt_values.specs.Value.{key_of}
use Rattle.std.specs.Prelude.{Bool, List, ℕ, ◌&&◌, ◌==◌, ◌≡◌}

-- the tables are those of the definitions, and this is the shape
pub record HasTables (schema : List TableDef) (shape : Shape) (c : Coordinator Definition) : Type 0 where
  pub tables : tables_defined c.definitions ≡ schema
  pub is_shape : c.log.header.shape ≡ shape

-- the row meets its table, and its key is of partition p
abbrev pub fits_part : List TableDef → Shape → ℕ → TableRow → Bool
fits_part schema shape p r = meets_table schema r.table r.row && (part_of_key shape (key_of r.row) == p)
