-- Schemas that grow.
use Rattle.salt_ast.specs.declared.trees.TableDef.{TableDef}
use Rattle.std.specs.Prelude.{List, ◌++◌, ◌≡◌}

-- the new one has the old one's tables with their numbers, and may have more
pub record Grows (old new : List TableDef) : Type 0 where
  pub more : List TableDef
  pub is : new ≡ old ++ more
