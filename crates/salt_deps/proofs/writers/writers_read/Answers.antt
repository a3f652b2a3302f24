use Rattle.salt_deps.proofs.Reading.{IsReading, goes-on}
use Rattle.salt_deps.proofs.Spanning.{begins-between, forward}
use Rattle.salt_deps.proofs.writers.writers_read.Goals as goal
use Rattle.salt_model.specs.Bounds.{first_place}
use Rattle.salt_model.specs.Tables.{place_cmp}
use Rattle.salt_values.specs.declared.id.Id.{Id}
use Rattle.std.proofs.Common.{List, ap, is_gt, false, subst, sym, ◌≡◌, ◌∙◌}
use Rattle.std.specs.BTreeMap.Range.{entries_between}
use Rattle.std.specs.Bound.{IsForward}
use Rattle.std.specs.declared.cmp.Ordering.TheVariants.{Less}

pub range-place-items-requires : goal.range-place-items-requires
range-place-items-requires c =
    subst (λ a. IsForward (λ p q. is_gt (place_cmp p q) ≡ false) (λ p q. place_cmp p q ≡ Less) a c.in_ok-last.last) (sym c.in_ok-first.ensures)
    (subst (λ b. IsForward (λ p q. is_gt (place_cmp p q) ≡ false) (λ p q. place_cmp p q ≡ Less) (first_place c.args.table c.args.range.now.lo) b) (sym c.in_ok-last.ensures) (forward c.args.table c.args.range.now c.requires))

pub loop-place-init : goal.loop-place-init
loop-place-init c =
    subst (λ (found : List Id). IsReading c.args.reader c.args.table c.args.range.now c.args.writers.now.entries found c.into_iter-place-iterator.result) (sym c.new-found.ensures.empty)
    (begins-between c.args.reader c.args.table c.args.range.now c.args.writers.now.entries c.into_iter-place-iterator.result
    (c.into_iter-place-iterator.ensures.into_iter_gives ∙ (c.range-place-items.ensures.between tt
    ∙ (ap (λ a. entries_between place_cmp a c.in_ok-last.last c.args.writers.now.entries) c.in_ok-first.ensures ∙ ap (λ b. entries_between place_cmp (first_place c.args.table c.args.range.now.lo) b c.args.writers.now.entries) c.in_ok-last.ensures))))

pub loop-place-preserved : goal.loop-place-preserved
loop-place-preserved c =
    goes-on c.args.reader c.args.table c.args.range.now c.args.writers.now.entries c.loop-place.found.keys c.find.new.found.keys (c.in-Some.place.now, c.in-Some.source.now)
    c.loop-place.place-iterator c.next.new.self c.in-Some.ensures.steps c.loop-place.invariant c.in_ok-find.ensures
