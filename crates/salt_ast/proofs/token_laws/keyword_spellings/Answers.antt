use Rattle.std.proofs.Common.{rules}
use Rattle.salt_ast.specs.TokenSpelling.{keyword_of}
use Rattle.salt_ast.proofs.SpellingLaws.{keyword_only}
use Rattle.salt_ast.proofs.token_laws.keyword_spellings.Goals as goal

pub returns-clause-read : goal.returns-clause-read
unfolding keyword_of
returns-clause-read c = search rules

pub returns-clause-only : goal.returns-clause-only
returns-clause-only c = keyword_only
