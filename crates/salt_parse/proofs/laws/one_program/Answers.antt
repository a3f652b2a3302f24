use Rattle.salt_parse.specs.Settling.{DeepProgram}
use Rattle.salt_parse.proofs.Whole.{one_tree, row_program}
use Rattle.salt_parse.proofs.laws.one_program.Goals as goal

pub returns : goal.returns
returns c = λ bytes a b s t. one_tree c.one_row.ensures.pieces bytes DeepProgram row_program a b s t
