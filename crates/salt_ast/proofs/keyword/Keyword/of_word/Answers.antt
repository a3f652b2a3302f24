use Rattle.std.proofs.Common.{arith}
use Rattle.salt_ast.proofs.SpellingLaws.{begins}
use Rattle.salt_ast.proofs.keyword.Keyword.of_word.Goals as goal

pub beginning_with-requires : goal.beginning_with-requires
beginning_with-requires c = begins c.args.word.now c.lower.result (omega arith) c.lower.ensures
