use Rattle.law_states.specs.Members.{In}
use Rattle.salt_locks.proofs.Spotting.{not-this}
use Rattle.salt_locks.proofs.spots.Spots.forget_programs.Goals as goal
use Rattle.std.proofs.Common.{inl, inr, refl, subst, sym}

pub loop-base-init : goal.loop-base-init
loop-base-init c = (λ b i. subst (In b) c.into_iter-base-iterator.ensures.into_iter_gives.0 i, λ ls spotted none. spotted)

pub loop-base-preserved : goal.loop-base-preserved
loop-base-preserved c =
    let inv = c.loop-base.invariant in
    let steps = c.in-Some.ensures.steps in
    let base = c.in-Some.base.now in (
      λ b i. inv.0 b (subst (In b) (sym steps) (inr i)),
      λ ls spotted none. c.forget.ensures ls (inv.1 ls spotted none)
          (λ l i. not-this base c.args.bases.now.keys l.owner (inv.0 base (subst (In base) (sym steps) (inl refl))) (none l i)),
    )
