use Rattle.salt_commit.proofs.Opened.{RuledSoFar, is_ruling, none_ruled, one_ruled}
use Rattle.salt_commit.proofs.Restarted.{masks_many}
use Rattle.salt_commit.proofs.parts.ruling_of.Goals as goal
use Rattle.salt_commit.specs.Openings.{named_units}
use Rattle.std.proofs.Common.{ap, arith, length, refl, subst, sym, ◌+◌, ◌∙◌}

pub loop-part-init : goal.loop-part-init
loop-part-init c = subst (λ xs. RuledSoFar c.args.kept.now xs 0) (sym c.new-decided.ensures.items) (none_ruled c.args.kept.now)

pub units_in_part-requires-clause-part : goal.units_in_part-requires-clause-part
units_in_part-requires-clause-part c = omega (arith, c.loop-part-test.true, c.requires.parts)

pub units_in_part-requires-clause-each : goal.units_in_part-requires-clause-each
units_in_part-requires-clause-each c =
    let k = c.requires.log in
    ap length c.as_slice-in-loop-part.ensures ∙ masks_many k.0 c.args.kept.now k.1 ∙ sym (ap length c.as_slice.ensures)

pub loop-part-preserved : goal.loop-part-preserved
loop-part-preserved c =
    let l = c.loop-part in
    let kept = c.args.kept.now in
    subst (λ xs. RuledSoFar kept xs (l.part + 1)) (sym c.in_ok-push.ensures.items)
    (one_ruled kept l.decided.items l.part c.in_ok-units.units l.invariant
    (c.in_ok-units.ensures ∙ ap (λ us. named_units l.part us c.as_slice-in-loop-part.result.now) c.as_slice.ensures ∙ ap (named_units l.part kept.decided) c.as_slice-in-loop-part.ensures))

pub returns-clause-is : goal.returns-clause-is
returns-clause-is c log k =
    let l = c.loop-part in
    is_ruling c.args.kept.now l.decided.items l.part _ l.invariant refl refl refl log k

pub returns-clause-size : goal.returns-clause-size
returns-clause-size c =
    let l = c.loop-part in
    omega (arith, l.invariant.size, c.loop-part-test.false, l.auto.part-end)
