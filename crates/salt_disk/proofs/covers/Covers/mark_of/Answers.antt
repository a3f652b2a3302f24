use Rattle.salt_disk.proofs.Spanned.{mark_here, mark_later}
use Rattle.salt_disk.proofs.covers.Covers.mark_of.Goals as goal
use Rattle.salt_disk.proofs.covers.Covers.mark_of.Goals.{else-span-place-via-then-span-place+else-place-span, else-span-place-via-else-span-place}
use Rattle.salt_disk.specs.Marks.{place_mark}
use Rattle.salt_disk.specs.Spans.{covers_at}
use Rattle.std.proofs.Common.{ap, arith, drop, inl, inr, rules, sym, ◌+◌, ◌≡◌, ◌∙◌}

pub returns-then-place-span : goal.returns-then-place-span
returns-then-place-span c =
    let was = c.self.inside.was.items in
    let spans = c.deref-span-items.result.now in
    let is : covers_at was spans ≡ c.args.self.now = ap (covers_at was) c.deref-span-items.ensures.value ∙ c.self.view_is in
    rw (← c.loop-span.invariant, ← is, mark_here was spans c.loop-span.span-index (omega (arith, c.loop-span-test.true)) c.args.place c.if-span-place.true c.if-place-span.true) (search rules)

pub loop-span-preserved : goal.loop-span-preserved
loop-span-preserved c =
    let was = c.self.inside.was.items in
    let spans = c.deref-span-items.result.now in
    let n = c.loop-span.span-index in
    let is : covers_at was spans ≡ c.args.self.now = ap (covers_at was) c.deref-span-items.ensures.value ∙ c.self.view_is in
    let later = mark_later was spans n (omega (arith, c.loop-span-test.true)) c.args.place in
    let passed : place_mark (drop n (covers_at was spans)) c.args.place ≡ place_mark (drop (n + 1) (covers_at was spans)) c.args.place =
    elim c.else-span-place.branch [
      | else-span-place-via-then-span-place+else-place-span w ↦ later (inr (omega (arith, w.if-place-span.false)))
      | else-span-place-via-else-span-place w ↦ later (inl (omega (arith, w.if-span-place.false)))
    ] in
    rw is at (sym passed) ∙ c.loop-span.invariant
