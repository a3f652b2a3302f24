use Rattle.std.proofs.Common.{length}
use Rattle.salt_ast.proofs.same.+same_in_any_case.Given as goal

abbrev pub decreases-same_in_any_case : goal.decreases-same_in_any_case
decreases-same_in_any_case l = length l.bytes.now
