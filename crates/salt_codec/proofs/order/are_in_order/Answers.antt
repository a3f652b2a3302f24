use Rattle.salt_bytes.specs.Changes.{are_in_order, change_cmp}
use Rattle.salt_codec.proofs.Orders.{in_order_end, in_order_next, starts}
use Rattle.salt_codec.proofs.order.are_in_order.Goals as goal
use Rattle.std.proofs.Common.{Bool, ap, arith, drop, false, get_or, subst, suc, sym, true, ℕ, ◌-◌, ◌≡◌, ◌∙◌}
use Rattle.std.specs.Ordering.{is_lt}
use Rattle.std.specs.Prelude.{◌&&◌}

pub loop-next-init : goal.loop-next-init
loop-next-init c = λ before is. starts c.args.changes.now before is

pub loop-next-preserved : goal.loop-next-preserved
loop-next-preserved c = λ before is.
    let xs = c.args.changes.now in
    let m : ℕ = c.loop-next.next - 1 in
    let here : c.loop-next.next ≡ suc m = omega (arith, c.loop-next.auto.next) in
    let a = c.index-changes-next.result in
    let b = c.index-changes-next-in-loop-next.result in
    let lower : is_lt (change_cmp a b) ≡ true = sym c.is_before.ensures ∙ c.if-not-is_before.false in
    let step = in_order_next xs m a b (omega (arith, here, c.loop-next-test.true)) c.index-changes-next.is (subst (λ (k : ℕ). b ≡ get_or xs k b) here c.index-changes-next-in-loop-next.is) in
    let now : suc m ≡ before = omega (arith, is, here) in
    subst (λ (k : ℕ). are_in_order (drop k xs) ≡ are_in_order xs) now (sym (step ∙ ap (λ (t : Bool). t && are_in_order (drop (suc m) xs)) lower) ∙ c.loop-next.invariant m here)

pub returns-then-not-is_before : goal.returns-then-not-is_before
returns-then-not-is_before c =
    let xs = c.args.changes.now in
    let m : ℕ = c.loop-next.next - 1 in
    let here : c.loop-next.next ≡ suc m = omega (arith, c.loop-next.auto.next) in
    let a = c.index-changes-next.result in
    let b = c.index-changes-next-in-loop-next.result in
    let lower : is_lt (change_cmp a b) ≡ false = sym c.is_before.ensures ∙ c.if-not-is_before.true in
    let step = in_order_next xs m a b (omega (arith, here, c.loop-next-test.true)) c.index-changes-next.is (subst (λ (k : ℕ). b ≡ get_or xs k b) here c.index-changes-next-in-loop-next.is) in
    sym (ap (λ (t : Bool). t && are_in_order (drop (suc m) xs)) lower) ∙ sym step ∙ c.loop-next.invariant m here

pub returns : goal.returns
returns c =
    let xs = c.args.changes.now in
    let m : ℕ = c.loop-next.next - 1 in
    let here : c.loop-next.next ≡ suc m = omega (arith, c.loop-next.auto.next) in
    sym (in_order_end xs m (omega (arith, here, c.loop-next-test.false))) ∙ c.loop-next.invariant m here
