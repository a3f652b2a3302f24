use Rattle.law_definitions.proofs.Texts.{statement_exactly}
use Rattle.law_definitions.proofs.laws.statements_are_read.Goals as goal

pub returns : goal.returns
returns c = statement_exactly c.quoted_text.ensures c.canonical_statement.ensures
