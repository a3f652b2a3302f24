use Rattle.salt_locks.proofs.Clearing.{EndLast, last_clear, last_longer, last_stays, mark_one}
use Rattle.salt_locks.proofs.clear.mark.Goals as goal
use Rattle.salt_locks.proofs.clear.mark.Goals.{else-is_clear+else-ends_no_later, then-is_clear, then-is_clear-via-else-is_clear+then-ends_no_later, then-is_clear-via-then-is_clear}
use Rattle.std.proofs.Common.{arith, length, subst, sym, ◌+◌, ◌<◌, ◌∙◌}
use Rattle.std.proofs.lemmas.List.{length-set}

pub loop-at-preserved : goal.loop-at-preserved
loop-at-preserved c =
    let ls = c.args.locks.now.items in
    let n = c.loop-at.at in
    let last = c.loop-at.last in
    let x = c.index-longest.result.now in
    let y = c.index-lock.result.now in
    let inv = c.loop-at.invariant in
    let under = c.loop-at-test.true in
    let count = c.len.ensures in
    let ok = c.args.locks.now.ok.0 in
    let test : n < length ls = omega (arith, under, count, ok) in
    let least : last < length ls = omega (arith, inv.1, test) in
    let marked = mark_one ls c.loop-at.clear.items last n x y c.ends_by-is_clear.result test inv.3 least c.index-longest.ensures c.index-lock.ensures c.ends_by-is_clear.ensures inv.4 inv.5 in
    let len = length-set c.loop-at.clear.items n c.ends_by-is_clear.result ∙ inv.3 in
    elim c.if-is_clear.branch [
      | then-is_clear w ↦ let e = w.last-is in (
        omega (arith, test),
        omega (arith, e),
        λ p. omega (arith, e),
        len,
        marked,
        subst (λ i. EndLast i (n + 1) ls) (sym e) (elim w.then-is_clear.branch [
          | then-is_clear-via-then-is_clear v ↦ last_clear ls last n x y c.requires.order test least c.index-longest.ensures c.index-lock.ensures (sym v.if-is_clear.ensures) inv.5
          | then-is_clear-via-else-is_clear+then-ends_no_later v ↦ last_longer ls last n x y c.requires.order test least inv.2 c.index-longest.ensures c.index-lock.ensures (sym v.if-ends_no_later.ensures) inv.5
        ]),
      )
      | else-is_clear+else-ends_no_later w ↦ let e = w.last-is in (
        omega (arith, test),
        omega (arith, e, inv.1),
        λ p. omega (arith, e, inv.1),
        len,
        marked,
        subst (λ i. EndLast i (n + 1) ls) (sym e) (last_stays ls last n x y test least c.index-longest.ensures c.index-lock.ensures (sym w.if-is_clear.ensures) (sym w.if-ends_no_later.ensures) inv.5),
      )
    ]
