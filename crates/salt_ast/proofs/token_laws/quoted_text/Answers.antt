use Rattle.std.proofs.Common.{ℕ, List, ap}
use Rattle.salt_ast.specs.Symbols.{text}
use Rattle.salt_ast.proofs.SpellingLaws.{content_is}
use Rattle.salt_ast.proofs.token_laws.quoted_text.Goals as goal

pub returns : goal.returns
returns c = λ content. ap (λ (x : List ℕ). text x) (content_is content)
