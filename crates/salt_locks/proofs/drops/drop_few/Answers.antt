use Rattle.salt_locks.proofs.Dropping.{marked_removed, none_seen, order_removed, other_stays, own_gone}
use Rattle.salt_locks.proofs.drops.drop_few.Goals as goal
use Rattle.salt_locks.specs.Clear.{IsMarked}
use Rattle.salt_locks.specs.Places.{AreInOrder}
use Rattle.std.proofs.Common.{ap, arith, length, refl, subst, sym, ◌-◌, ◌≡◌, ◌∙◌}
use Rattle.std.proofs.lemmas.List.Edits.{length-remove}
use Rattle.std.specs.List.{remove}

pub loop-left-init : goal.loop-left-init
loop-left-init c =
    let len = c.len-left.ensures in
    let ok = c.args.locks.now.ok.0 in
    let end : c.len-left.result ≡ length c.args.locks.now.items = omega (arith, len, ok) in
    (omega (arith, end), c.requires.numbers, c.requires.order, c.requires.marked, refl, none_seen c.args.owner c.args.numbers.now.items c.args.locks.now.items c.len-left.result end c.requires.numbers)

pub loop-left-preserved-then-is_same_owner : goal.loop-left-preserved-then-is_same_owner
loop-left-preserved-then-is_same_owner c =
    let ns = c.loop-left.numbers.items in
    let cs = c.loop-left.clear.items in
    let ls = c.loop-left.locks.items in
    let k = c.loop-left.left - 1 in
    let inv = c.loop-left.invariant in
    let some = c.loop-left-test.true in
    let same = inv.1 in
    let new = c.remove_at.new in
    let is = c.remove_at.ensures in
    let n = length-remove ns k (omega (arith, some, inv.0, same)) in
    let l = length-remove ls k (omega (arith, some, inv.0)) in
    let n_is = ap length is.numbers in
    let l_is = ap length is.locks in
    let gone = own_gone c.args.owner ns new.numbers.items ls new.locks.items c.loop-left.left c.index.result.now same some inv.0 is.numbers is.locks c.index.ensures (sym c.if-is_same_owner.ensures) inv.5 in (
      omega (arith, some, inv.0, l, l_is),
      omega (arith, same, n, l, n_is, l_is),
      subst AreInOrder (sym is.locks) (order_removed ls k inv.2),
      subst (λ xs. IsMarked xs new.locks.items) (sym is.clear) (subst (IsMarked (remove cs k)) (sym is.locks) (marked_removed cs ls k (omega (arith, some, inv.0)) inv.3)),
      gone.0 ∙ inv.4,
      gone.1,
    )

pub loop-left-preserved : goal.loop-left-preserved
loop-left-preserved c =
    let inv = c.loop-left.invariant in
    let some = c.loop-left-test.true in (
      omega (arith, inv.0),
      inv.1,
      inv.2,
      inv.3,
      inv.4,
      other_stays c.args.owner c.loop-left.numbers.items c.loop-left.locks.items c.loop-left.left c.index.result.now inv.1 some inv.0 c.index.ensures (sym c.if-is_same_owner.ensures) inv.5,
    )
