use Rattle.salt_ast.specs.Judgement.{doubled_in_statement}
use Rattle.salt_ast.specs.Words.{first_in}
use Rattle.salt_program.proofs.statements.doubled_in_block.Given as goal
use Rattle.std.proofs.Common.{drop, ◌≡◌}

abbrev pub invariant-loop-statement : goal.invariant-loop-statement
invariant-loop-statement l = first_in doubled_in_statement l.block ≡ first_in doubled_in_statement (drop l.statement-index l.block)
