use Rattle.salt_disk.proofs.Spanned.{bounds_next}
use Rattle.salt_disk.proofs.covers.Covers.bounds.Goals as goal
use Rattle.salt_disk.specs.Spans.{covers_at}
use Rattle.std.proofs.Common.{ap, arith, ◌≡◌, ◌∙◌}

pub loop-span-preserved : goal.loop-span-preserved
loop-span-preserved c =
    let was = c.self.inside.was.items in
    let spans = c.deref-span-items.result.now in
    let is : covers_at was spans ≡ c.args.self.now = ap (covers_at was) c.deref-span-items.ensures.value ∙ c.self.view_is in
    let first = c.min-first.ensures in
    let last = c.max-last.ensures in
    rw (← is) (bounds_next was spans c.loop-span.span-index (omega (arith, c.loop-span-test.true)) c.loop-span.first c.loop-span.last c.min-first.result c.max-last.result
    (grind (arith, first)) (grind (arith, first)) (grind (arith, last)) (grind (arith, last)) (rw (← is) at c.loop-span.invariant))
