use Rattle.salt_directory.proofs.Rooms.{mended_but, mended_first, stands}
use Rattle.salt_directory.proofs.space.mend.Goals as goal
use Rattle.salt_directory.proofs.space.mend.Goals.{else-loop-at-test, then-loop-at-test+else-most-at}
use Rattle.salt_directory.specs.Space.{AreMost, AreMostBut}
use Rattle.std.proofs.Common.{arith, set, subst, sym, ◌-◌, ◌/◌, ◌∙◌}
use Rattle.std.proofs.lemmas.List.{get_or_default}

pub loop-at-preserved : goal.loop-at-preserved
loop-at-preserved c =
    let l = c.loop-at in
    let free = c.args.free.now in
    record {
      within = omega (arith, l.invariant.within);
      others = subst (λ n. AreMostBut ((l.at - 1) / 2) free (set l.most l.at n)) (sym l.invariant.is) (mended_but free l.most l.at l.invariant.within l.invariant.others (omega (arith, c.loop-at-test.true)));
      is = c.most_from-greatest-in-loop-at.ensures;
    }

pub returns : goal.returns
returns c =
    let l = c.loop-at in
    let free = c.args.free.now in
    subst (λ n. AreMost free (set l.most l.at n)) (sym l.invariant.is)
    (elim c.loop-at-test.branch [
      | then-loop-at-test+else-most-at w ↦ stands free l.most l.at l.invariant.within l.invariant.others (sym (get_or_default l.most l.at _ 0 (omega (arith, l.invariant.within, l.invariant.others.count))) ∙ w.if-most-at.false ∙ l.invariant.is)
      | else-loop-at-test w ↦ mended_first free l.most l.at l.invariant.within l.invariant.others (omega (arith, w.loop-at-test.false))
    ])
