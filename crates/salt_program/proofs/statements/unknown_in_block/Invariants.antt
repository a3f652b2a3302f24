use Rattle.salt_ast.specs.Judgement.{unknown_in_statement}
use Rattle.salt_ast.specs.Words.{first_in}
use Rattle.salt_program.proofs.statements.unknown_in_block.Given as goal
use Rattle.salt_schema.specs.Names.{scope_of}
use Rattle.std.proofs.Common.{drop, ◌≡◌}

abbrev pub invariant-loop-statement : goal.invariant-loop-statement
invariant-loop-statement l = first_in (unknown_in_statement l.schema (scope_of l.bindings)) l.block ≡ first_in (unknown_in_statement l.schema (scope_of l.bindings)) (drop l.statement-index l.block)
