use Rattle.law_texts.proofs.Statements.{arrow_found, statement_one}
use Rattle.law_texts.proofs.laws.statement_before_arrow.Goals as goal

pub returns-clause-found : goal.returns-clause-found
returns-clause-found c = arrow_found c.laws_below.ensures

pub returns-clause-one : goal.returns-clause-one
returns-clause-one c = statement_one c.laws_below.ensures
