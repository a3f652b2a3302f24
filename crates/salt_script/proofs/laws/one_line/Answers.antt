use Rattle.salt_parse.proofs.Whole.{one_tree}
use Rattle.salt_script.proofs.Unique.{row_line}
use Rattle.salt_script.proofs.laws.one_line.Goals as goal
use Rattle.salt_script.specs.Spelled.{DeepLine}

pub returns : goal.returns
returns c = λ bytes a b s t. one_tree c.one_row.ensures.pieces bytes DeepLine row_line a b s t
