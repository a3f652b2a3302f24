use Rattle.law_states.specs.Members.{In}
use Rattle.salt_locks.proofs.Dropping.{marked_removed, order_removed, own_out}
use Rattle.salt_locks.proofs.Runs.{before_stays, other_passed, own_removed, spot_gone}
use Rattle.salt_locks.proofs.Spotting.{in-removed}
use Rattle.salt_locks.proofs.drops.drop_between.Goals as goal
use Rattle.salt_locks.specs.Clear.{IsMarked}
use Rattle.salt_locks.specs.Places.{AreInOrder}
use Rattle.std.proofs.Common.{ap, arith, length, refl, subst, sym, ◌-◌, ◌∙◌}
use Rattle.std.proofs.lemmas.List.Edits.{length-remove}
use Rattle.std.specs.List.{remove}

pub loop-left-init : goal.loop-left-init
loop-left-init c = (
  c.requires.within,
  c.requires.numbers,
  c.requires.order,
  c.requires.marked,
  refl,
  λ x i. i,
  c.requires.before,
  λ k d g h own. c.requires.behind k d g h,
)

pub loop-left-preserved-then-remove_at : goal.loop-left-preserved-then-remove_at
loop-left-preserved-then-remove_at c =
    let ns = c.loop-left.numbers.items in
    let cs = c.loop-left.clear.items in
    let ls = c.loop-left.locks.items in
    let k = c.loop-left.left - 1 in
    let inv = c.loop-left.invariant in
    let some = c.loop-left-test.true in
    let under = inv.0 in
    let same = inv.1 in
    let new = c.remove_at.new in
    let is = c.remove_at.ensures in
    let n = length-remove ns k (omega (arith, some, under, same)) in
    let l = length-remove ls k (omega (arith, some, under)) in
    let n_is = ap length is.numbers in
    let l_is = ap length is.locks in (
      omega (arith, some, under, l, l_is),
      omega (arith, same, n, l, n_is, l_is),
      subst AreInOrder (sym is.locks) (order_removed ls k inv.2),
      subst (λ xs. IsMarked xs new.locks.items) (sym is.clear) (subst (IsMarked (remove cs k)) (sym is.locks) (marked_removed cs ls k (omega (arith, some, under)) inv.3)),
      own_out c.args.owner ns new.numbers.items ls new.locks.items c.loop-left.left c.index.result.now same (omega (arith, some)) under is.numbers is.locks c.index.ensures
          (sym c.if-is_same_owner.ensures)
          ∙ inv.4,
      λ x i. inv.5 x (in-removed ls k x (subst (In x) is.locks i)),
      before_stays c.args.spot.now c.args.from c.loop-left.left ls new.locks.items some under is.locks inv.6,
      own_removed c.args.owner c.args.spot.now ls new.locks.items c.loop-left.left (omega (arith, some)) under is.locks inv.7,
    )

pub loop-left-preserved-else-remove_at : goal.loop-left-preserved-else-remove_at
loop-left-preserved-else-remove_at c =
    let ns = c.loop-left.numbers.items in
    let cs = c.loop-left.clear.items in
    let ls = c.loop-left.locks.items in
    let k = c.loop-left.left - 1 in
    let inv = c.loop-left.invariant in
    let some = c.loop-left-test.true in
    let under = inv.0 in
    let same = inv.1 in
    let new = c.remove_at.new in
    let is = c.remove_at.ensures in
    let n = length-remove ns k (omega (arith, some, under, same)) in
    let l = length-remove ls k (omega (arith, some, under)) in
    let n_is = ap length is.numbers in
    let l_is = ap length is.locks in (
      omega (arith, some, under, l, l_is),
      omega (arith, same, n, l, n_is, l_is),
      subst AreInOrder (sym is.locks) (order_removed ls k inv.2),
      subst (λ xs. IsMarked xs new.locks.items) (sym is.clear) (subst (IsMarked (remove cs k)) (sym is.locks) (marked_removed cs ls k (omega (arith, some, under)) inv.3)),
      own_out c.args.owner ns new.numbers.items ls new.locks.items c.loop-left.left c.index.result.now same (omega (arith, some)) under is.numbers is.locks c.index.ensures
          (sym c.if-is_same_owner.ensures)
          ∙ inv.4,
      λ x i. inv.5 x (in-removed ls k x (subst (In x) is.locks i)),
      before_stays c.args.spot.now c.args.from c.loop-left.left ls new.locks.items some under is.locks inv.6,
      own_removed c.args.owner c.args.spot.now ls new.locks.items c.loop-left.left (omega (arith, some)) under is.locks inv.7,
    )

pub loop-left-preserved : goal.loop-left-preserved
loop-left-preserved c =
    let inv = c.loop-left.invariant in
    let some = c.loop-left-test.true in
    let under = inv.0 in (
      omega (arith, under),
      inv.1,
      inv.2,
      inv.3,
      inv.4,
      inv.5,
      inv.6,
      other_passed c.args.owner c.args.spot.now c.loop-left.locks.items c.loop-left.left c.index.result.now (omega (arith, some)) under c.index.ensures
          (sym c.if-is_same_owner.ensures) inv.7,
    )

pub returns-clause-gone : goal.returns-clause-gone
returns-clause-gone c =
    let inv = c.loop-left.invariant in
    spot_gone c.args.owner c.args.spot.now c.args.locks.now.items c.loop-left.locks.items c.args.from c.loop-left.left c.loop-left-test.false inv.5 inv.6 inv.7
