use Rattle.salt_parse.proofs.Whole.{row_table, table_deepens}
use Rattle.salt_parse.proofs.laws.row_table.Goals as goal

pub returns-clause-one : goal.returns-clause-one
returns-clause-one c = row_table

pub returns-clause-deepens : goal.returns-clause-deepens
returns-clause-deepens c = table_deepens
