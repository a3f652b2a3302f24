use Rattle.salt_ast.specs.Judgement.{unknown_name}
use Rattle.salt_ast.specs.Words.{first_in}
use Rattle.salt_schema.proofs.unknown.unknown_columns.Given as goal
use Rattle.std.proofs.Common.{drop, ◌≡◌}

abbrev pub invariant-loop-name : goal.invariant-loop-name
invariant-loop-name l = first_in (unknown_name l.columns) l.names ≡ first_in (unknown_name l.columns) (drop l.name-index l.names)
