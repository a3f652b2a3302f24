use Rattle.salt_ast.specs.Judgement.{doubled_in_statement}
use Rattle.salt_program.proofs.Walks.{first_in_part}
use Rattle.salt_program.proofs.statements.doubled_in_parts.Goals as goal
use Rattle.std.proofs.Common.{refl, ◌∙◌}

pub returns-in-Some : goal.returns-in-Some
returns-in-Some c =
    rw (c.loop-part.invariant, first_in_part doubled_in_statement c.args.parts.now c.loop-part.part-index c.part-item.result c.loop-part-test.true c.part-item.is, ← c.as_slice.ensures, ← c.in-Some.ensures) refl

pub loop-part-preserved : goal.loop-part-preserved
loop-part-preserved c =
    c.loop-part.invariant
    ∙ rw (first_in_part doubled_in_statement c.args.parts.now c.loop-part.part-index c.part-item.result c.loop-part-test.true c.part-item.is, ← c.as_slice.ensures, ← c.in_default.ensures) refl
