use Rattle.salt_parse.proofs.Whole.{row_statement, statement_deepens}
use Rattle.salt_parse.proofs.laws.row_statement.Goals as goal

pub returns-clause-one : goal.returns-clause-one
returns-clause-one c = row_statement

pub returns-clause-deepens : goal.returns-clause-deepens
returns-clause-deepens c = statement_deepens
