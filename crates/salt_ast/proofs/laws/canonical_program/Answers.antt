use Rattle.salt_ast.proofs.CanonicalPrograms.{canonical_program}
use Rattle.salt_ast.proofs.laws.canonical_program.Goals as goal

pub returns : goal.returns
returns c = canonical_program c.written_tokens.ensures
