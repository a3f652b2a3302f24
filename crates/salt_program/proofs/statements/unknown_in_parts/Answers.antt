use Rattle.salt_ast.specs.Judgement.{unknown_in_statement}
use Rattle.salt_program.proofs.Walks.{first_in_part}
use Rattle.salt_program.proofs.statements.unknown_in_parts.Goals as goal
use Rattle.salt_schema.specs.Names.{scope_of}
use Rattle.std.proofs.Common.{refl, ◌∙◌}

pub returns-in-Some : goal.returns-in-Some
returns-in-Some c =
    let f = unknown_in_statement c.args.schema.now (scope_of c.args.bindings.now) in
    rw (c.loop-part.invariant, first_in_part f c.args.parts.now c.loop-part.part-index c.part-item.result c.loop-part-test.true c.part-item.is, ← c.as_slice.ensures, ← c.in-Some.ensures) refl

pub loop-part-preserved : goal.loop-part-preserved
loop-part-preserved c =
    let f = unknown_in_statement c.args.schema.now (scope_of c.args.bindings.now) in
    c.loop-part.invariant
    ∙ rw (first_in_part f c.args.parts.now c.loop-part.part-index c.part-item.result c.loop-part-test.true c.part-item.is, ← c.as_slice.ensures, ← c.in_default.ensures) refl
