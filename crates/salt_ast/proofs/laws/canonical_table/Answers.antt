use Rattle.salt_ast.proofs.CanonicalTables.{canonical_table}
use Rattle.salt_ast.proofs.laws.canonical_table.Goals as goal

pub returns : goal.returns
returns c = canonical_table c.written_tokens.ensures
