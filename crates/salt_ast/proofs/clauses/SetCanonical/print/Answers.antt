use Rattle.salt_ast.proofs.Joins.{◌⨾◌}
use Rattle.salt_ast.proofs.clauses.SetCanonical.print.Goals as goal

pub returns : goal.returns
returns g c = c.kept.ensures ⨾ c.bytes.ensures ⨾ c.print.ensures
