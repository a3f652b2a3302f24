use Rattle.salt_ast.specs.ProgramJudgement.{fault_in_parts}
use Rattle.salt_program.proofs.branches.fault_in_parts.Given as goal
use Rattle.std.proofs.Common.{drop, length, ◌+◌, ◌≡◌}

abbrev pub invariant-loop-at : goal.invariant-loop-at
invariant-loop-at l = fault_in_parts (length l.parts) 1 l.parts ≡ fault_in_parts (length l.parts) (l.at + 1) (drop l.at l.parts)
