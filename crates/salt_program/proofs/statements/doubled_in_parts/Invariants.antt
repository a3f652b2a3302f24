use Rattle.salt_ast.specs.Judgement.{doubled_in_statement}
use Rattle.salt_ast.specs.Words.{first_in}
use Rattle.salt_program.proofs.Walks.{in_parts}
use Rattle.salt_program.proofs.statements.doubled_in_parts.Given as goal
use Rattle.std.proofs.Common.{drop, ◌≡◌}

abbrev pub invariant-loop-part : goal.invariant-loop-part
invariant-loop-part l = first_in doubled_in_statement (in_parts l.parts) ≡ first_in doubled_in_statement (in_parts (drop l.part-index l.parts))
