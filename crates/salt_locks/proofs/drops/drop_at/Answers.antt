use Rattle.salt_locks.proofs.Runs.{all_others}
use Rattle.salt_locks.proofs.Spotting.{next-spot}
use Rattle.salt_locks.proofs.drops.drop_at.Goals as goal
use Rattle.salt_locks.specs.Spots.{AreAt}
use Rattle.std.proofs.Common.{arith, drop, subst, sym, ◌+◌, ◌∙◌}
use Rattle.std.proofs.lemmas.List.{drop_all}

pub loop-spot-preserved : goal.loop-spot-preserved
loop-spot-preserved c =
    let inv = c.loop-spot.invariant in
    let now = c.drop_spot.ensures in (
      now.numbers,
      now.order,
      now.marked,
      now.others ∙ inv.3,
      now.gone (drop (c.loop-spot.spot-index + 1) c.args.spots.now)
          (subst (λ ss. AreAt c.args.owner ss c.loop-spot.locks.items) (next-spot c.args.spots.now c.loop-spot.spot-index c.spot-item.result c.loop-spot-test.true c.spot-item.is) inv.4),
    )

pub returns-then-is_long-clause-all : goal.returns-then-is_long-clause-all
returns-then-is_long-clause-all c =
    let inv = c.loop-spot.invariant in
    let test = c.loop-spot-test.false in
    let none = subst (λ ss. AreAt c.args.owner ss c.loop-spot.locks.items) (drop_all c.loop-spot.spot-index c.args.spots.now (omega (arith, test))) inv.4 in
    sym (all_others c.args.owner c.loop-spot.numbers.items c.loop-spot.locks.items none) ∙ inv.3

pub returns-else-is_long-clause-all : goal.returns-else-is_long-clause-all
returns-else-is_long-clause-all c =
    let inv = c.loop-spot.invariant in
    let test = c.loop-spot-test.false in
    let none = subst (λ ss. AreAt c.args.owner ss c.loop-spot.locks.items) (drop_all c.loop-spot.spot-index c.args.spots.now (omega (arith, test))) inv.4 in
    sym (all_others c.args.owner c.loop-spot.numbers.items c.loop-spot.locks.items none) ∙ inv.3
