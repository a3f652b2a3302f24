use Rattle.salt_parse.specs.Settling.{DeepStatement}
use Rattle.salt_parse.proofs.Whole.{one_tree, row_statement}
use Rattle.salt_parse.proofs.laws.one_statement.Goals as goal

pub returns : goal.returns
returns c = λ bytes a b s t. one_tree c.one_row.ensures.pieces bytes DeepStatement row_statement a b s t
