-- Rests of the parts of a program, in a table.
use Rattle.salt_ast.specs.Paths.{at_number}
use Rattle.salt_ast.specs.declared.programs.PartDef.{PartDef}
use Rattle.salt_values.specs.declared.limits.TheConstants.{PARTS_MOST, STATEMENTS_MOST}
use Rattle.std.specs.List.{All}
use Rattle.std.specs.Prelude.{List, Option, length, option_and_then, unwrap_or, ℕ, ◌≤◌}

-- no more parts, and no more statements in each, than there may be
pub record AreFew (parts : List PartDef) : Type 0 where
  pub count : length parts ≤ PARTS_MOST
  pub blocks : All (λ (p : PartDef). length p.block ≤ STATEMENTS_MOST) parts

-- what a table of rests tells of a way: the end has none, and no part without an entry has any
abbrev pub rest_told : List ℕ → Option ℕ → ℕ
rest_told rests way = unwrap_or (option_and_then (λ number. at_number number rests) way) 0
