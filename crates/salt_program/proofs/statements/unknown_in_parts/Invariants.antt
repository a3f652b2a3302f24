use Rattle.salt_ast.specs.Judgement.{unknown_in_statement}
use Rattle.salt_ast.specs.Words.{first_in}
use Rattle.salt_program.proofs.Walks.{in_parts}
use Rattle.salt_program.proofs.statements.unknown_in_parts.Given as goal
use Rattle.salt_schema.specs.Names.{scope_of}
use Rattle.std.proofs.Common.{drop, ◌≡◌}

abbrev pub invariant-loop-part : goal.invariant-loop-part
invariant-loop-part l = first_in (unknown_in_statement l.schema (scope_of l.bindings)) (in_parts l.parts) ≡ first_in (unknown_in_statement l.schema (scope_of l.bindings)) (in_parts (drop l.part-index l.parts))
