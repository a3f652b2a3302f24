use Rattle.salt_parse.proofs.Whole.{row_program, program_deepens}
use Rattle.salt_parse.proofs.laws.row_program.Goals as goal

pub returns-clause-one : goal.returns-clause-one
returns-clause-one c = row_program

pub returns-clause-deepens : goal.returns-clause-deepens
returns-clause-deepens c = program_deepens
