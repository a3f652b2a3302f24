use Rattle.salt_deps.proofs.Meeting.{IsMet, meets-sources, reaches-on, unmet}
use Rattle.salt_deps.proofs.Walking.{IsWalk, all_sources, are-reached, nil-from, sources-less, starts-one}
use Rattle.salt_deps.proofs.walks.reached.Goals as goal
use Rattle.salt_deps.specs.Group.{reads_in}
use Rattle.salt_deps.specs.Maps.{is_source}
use Rattle.salt_deps.specs.Walks.{unseen}
use Rattle.salt_values.specs.Id.{has_id}
use Rattle.salt_values.specs.declared.id.Id.{Id}
use Rattle.std.proofs.Common.{List, [], ap, arith, length, refl, subst, sym, ◌+◌, ◌++◌, ◌<◌, ◌∙◌, ◌∷◌}

pub loop-next-init : goal.loop-next-init
loop-next-init c = (
  starts-one (reads_in c.args.readings.now) c.args.name c.new-seen.result.keys c.new-ahead.result.items c.see.new.seen.keys c.see.new.ahead.items
      c.new-seen.ensures.empty c.new-ahead.ensures.items c.in_ok-see.ensures,
  unmet (λ y. has_id y c.args.readings.now.group.sources.keys) c.see.new.seen.keys,
)

pub loop-next-smaller : goal.loop-next-smaller
loop-next-smaller c =
    let old = c.args.readings.now in
    let all = all_sources old.links.sources.entries ++ old.group.sources.keys in
    subst (λ (l : List Id). unseen all c.see_all.new.seen.keys + length c.see_all.new.ahead.items < unseen all c.loop-next.seen.keys + length l) (sym {A = List Id} c.in-Some.ensures.items)
    (sources-less old.links.sources c.loop-next.met old.group.readers.keys old.group.sources.keys c.in-Some.next c.deref.result.now c.loop-next.seen.keys c.pop.new.self.items
    c.see_all.new.seen.keys c.see_all.new.ahead.items
    (λ y. ap (has_id y) c.deref.ensures.value ∙ c.in_ok-sources.ensures y) c.in_ok-see_all.ensures)

pub loop-next-preserved : goal.loop-next-preserved
loop-next-preserved c =
    let old = c.args.readings.now in
    let pair = is_source old.links.sources in
    let readers = old.group.readers.keys in
    let sources = old.group.sources.keys in
    let met = c.loop-next.met in
    let next = c.in-Some.next in
    let names = c.deref.result.now in
    let seen = c.loop-next.seen.keys in
    let rest = c.pop.new.self.items in
    let new = c.see_all.new.seen.keys in
    let onward = c.see_all.new.ahead.items in (
      reaches-on pair (reads_in old) met readers sources (c.args.name ∷ []) seen rest new onward names next (λ x y. refl)
          (subst (IsWalk (reads_in old) (c.args.name ∷ []) seen) c.in-Some.ensures.items c.loop-next.invariant.0) c.loop-next.invariant.1
          (λ y. ap (has_id y) c.deref.ensures.value ∙ c.in_ok-sources.ensures y) c.in_ok-see_all.ensures,
      subst (λ t. IsMet t (λ y. has_id y sources) new) (sym c.has_met-met.ensures)
          (meets-sources pair met readers sources next names seen rest new onward c.loop-next.invariant.1
          (λ y. ap (has_id y) c.deref.ensures.value ∙ c.in_ok-sources.ensures y) c.in_ok-see_all.ensures),
    )

pub returns : goal.returns
returns c =
    are-reached (reads_in c.args.readings.now) c.args.name c.loop-next.seen.keys c.loop-next.ahead.items c.loop-next.invariant.0 (nil-from c.loop-next.ahead.items (omega (arith, c.in_default.ensures.cases.0)))
