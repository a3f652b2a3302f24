use Rattle.salt_ast.proofs.CanonicalStatements.{canonical_statement}
use Rattle.salt_ast.proofs.laws.canonical_statement.Goals as goal

pub returns : goal.returns
returns c = canonical_statement c.written_tokens.ensures
