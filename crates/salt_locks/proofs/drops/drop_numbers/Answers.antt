use Rattle.salt_locks.proofs.Moved.{else_step, then_step}
use Rattle.salt_locks.proofs.Puts.{goes, numbers_left}
use Rattle.salt_locks.proofs.drops.drop_numbers.Goals as goal
use Rattle.salt_locks.proofs.drops.drop_numbers.Goals.{then-not-has, else-not-has}
use Rattle.std.proofs.Common.{ap, arith, length, sym, ◌<◌, ◌∙◌}

pub loop-at-preserved : goal.loop-at-preserved
loop-at-preserved c =
    let out = goes c.args.leaving.now in
    let ls = c.args.locks.now.items in
    let whole = numbers_left out c.args.numbers.now.items ls in
    let inv = c.loop-at.invariant in
    let under = c.loop-at-test.true in
    let count = c.len.ensures in
    let ok = c.args.locks.now.ok.0 in
    let test : c.loop-at.at < length ls = omega (arith, under, count, ok) in
    elim c.if-not-has.branch [
      | then-not-has w ↦ then_step out ls whole c.loop-at.kept c.loop-at.at c.loop-at.numbers.items w.index.result.now c.index-lock.result.now inv.0 test inv.2 inv.3 w.index.ensures
          (ap out (sym c.index-lock.ensures) ∙ sym w.if-not-has.ensures) c.if-not-has.kept c.if-not-has.numbers.items w.kept-is (ap (λ v. v.items) w.numbers-is)
      | else-not-has w ↦ else_step out ls whole c.loop-at.kept c.loop-at.at c.loop-at.numbers.items c.index-lock.result.now inv.0 test inv.2 inv.3
          (ap out (sym c.index-lock.ensures) ∙ sym w.if-not-has.ensures) c.if-not-has.kept c.if-not-has.numbers.items w.kept-is (ap (λ v. v.items) w.numbers-is)
    ]
