use Rattle.salt_parse.specs.Settling.{DeepTable}
use Rattle.salt_parse.proofs.Whole.{one_tree, row_table}
use Rattle.salt_parse.proofs.laws.one_table.Goals as goal

pub returns : goal.returns
returns c = λ bytes a b s t. one_tree c.one_row.ensures.pieces bytes DeepTable row_table a b s t
