use Rattle.salt_ast.proofs.Rests.{rest_of_part}
use Rattle.salt_ast.proofs.path_laws.rest_of_a_part.Goals as goal

pub returns : goal.returns
returns c = rest_of_part
