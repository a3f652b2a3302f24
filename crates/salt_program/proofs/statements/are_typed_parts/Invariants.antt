use Rattle.salt_ast.specs.Judgement.{is_typed_statement}
use Rattle.salt_program.proofs.Walks.{in_parts}
use Rattle.salt_program.proofs.statements.are_typed_parts.Given as goal
use Rattle.salt_schema.specs.Names.{scope_of}
use Rattle.std.proofs.Common.{drop, ◌≡◌}
use Rattle.std.specs.List.{list_all}

abbrev pub invariant-loop-part : goal.invariant-loop-part
invariant-loop-part l = list_all (is_typed_statement l.schema (scope_of l.bindings)) (in_parts l.parts) ≡ list_all (is_typed_statement l.schema (scope_of l.bindings)) (in_parts (drop l.part-index l.parts))
