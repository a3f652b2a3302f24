use Rattle.salt_ast.proofs.SpellingLaws.{sign_read}
use Rattle.salt_ast.proofs.token_laws.sign_spellings.Goals as goal

pub returns : goal.returns
returns c = sign_read
