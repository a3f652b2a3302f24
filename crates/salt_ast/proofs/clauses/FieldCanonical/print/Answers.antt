use Rattle.salt_ast.proofs.Joins.{◌⨾◌}
use Rattle.salt_ast.proofs.clauses.FieldCanonical.print.Goals as goal

pub returns : goal.returns
returns g c = rw (← c.word.ensures, ← c.null_word.ensures) (c.kept.ensures ⨾ c.bytes.ensures ⨾ c.bytes-2.ensures ⨾ c.bytes-3.ensures)
