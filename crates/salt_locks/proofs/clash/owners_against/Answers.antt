use Rattle.salt_locks.proofs.Parts.{left_here, left_out, part_before}
use Rattle.salt_locks.proofs.clash.owners_against.Goals as goal
use Rattle.salt_locks.specs.Tables.{bases_in, units_in}
use Rattle.salt_model.specs.Locks.{clashes, owners_of}
use Rattle.salt_model.specs.declared.events.Owner.{Owner}
use Rattle.std.proofs.Common.{ap, arith, map, refl, subst, sym, ◌++◌, ◌-◌, ◌≡◌, ◌∙◌}
use Rattle.std.specs.List.{filter}
use Rattle.std.specs.Prelude.{IfOk, drop, take}

pub loop-left-preserved-in-Continue-1 : goal.loop-left-preserved-in-Continue-1
loop-left-preserved-in-Continue-1 c =
    let p = clashes c.args.owner c.args.family c.args.reach.now in
    let ls = c.args.locks.now.items in
    let left = c.loop-left.left in
    let to = c.args.part.1 in
    let l = c.index-lock.result.now in
    let inv = c.loop-left.invariant in
    let some = c.loop-left-test.true in
    let rest = take (to - left) (drop left ls) in
    let step = ap (filter p) (part_before ls left to l (omega (arith, some)) inv.1 inv.2 c.index-lock.ensures) ∙ left_here p l rest (sym c.if-clashes.ensures) in (
      omega (arith, some),
      omega (arith, inv.1),
      inv.2,
      c.in_ok-insert_owner.ensures.units l (filter p rest) refl inv.3 ∙ ap units_in (sym step),
      c.in_ok-insert_owner.ensures.bases l (filter p rest) refl inv.4 ∙ ap bases_in (sym step),
    )

pub loop-left-preserved : goal.loop-left-preserved
loop-left-preserved c =
    let p = clashes c.args.owner c.args.family c.args.reach.now in
    let ls = c.args.locks.now.items in
    let left = c.loop-left.left in
    let to = c.args.part.1 in
    let l = c.index-lock.result.now in
    let inv = c.loop-left.invariant in
    let some = c.loop-left-test.true in
    let rest = take (to - left) (drop left ls) in
    let step = ap (filter p) (part_before ls left to l (omega (arith, some)) inv.1 inv.2 c.index-lock.ensures) ∙ left_out p l rest (sym c.if-clashes.ensures) in (
      omega (arith, some),
      omega (arith, inv.1),
      inv.2,
      inv.3 ∙ ap units_in (sym step),
      inv.4 ∙ ap bases_in (sym step),
    )

pub returns : goal.returns
returns c =
    let p = clashes c.args.owner c.args.family c.args.reach.now in
    let ls = c.args.locks.now.items in
    let left = c.loop-left.left in
    let to = c.args.part.1 in
    let inv = c.loop-left.invariant in
    let test = c.loop-left-test.false in
    let here : left ≡ c.args.part.0 = omega (arith, inv.0, test) in
    let found = filter p (take (to - left) (drop left ls)) in
    subst (λ os. IfOk c.joined.result (λ owners. owners ≡ os))
    (ap (λ us. map Owner.Unit us ++ map Owner.Base c.deref-2.result.now) (c.deref.ensures.value ∙ inv.3)
    ∙ (ap (λ bs. map Owner.Unit (units_in found) ++ map Owner.Base bs) (c.deref-2.ensures.value ∙ inv.4) ∙ ap (λ i. owners_of (filter p (take (to - i) (drop i ls)))) here))
    c.joined.ensures
