use Rattle.salt_deps.proofs.Meeting.{IsMet, comes-on, meets-readers, unmet}
use Rattle.salt_deps.proofs.Walking.{IsWalk, against, are-comers, nil-from, readers-less, starts-all}
use Rattle.salt_deps.specs.Due.{reads_done}
use Rattle.salt_deps.specs.Group.{reads_in}
use Rattle.salt_deps.specs.Maps.{is_source}
use Rattle.salt_deps.specs.Walks.{unseen}
use Rattle.salt_values.specs.Id.{has_id}
use Rattle.salt_values.specs.declared.id.Id.{Id}
use Rattle.std.proofs.Common.{List, ap, arith, length, refl, subst, sym, ◌&&◌, ◌+◌, ◌++◌, ◌<◌, ◌∙◌, ◌∷◌}
use Rattle.std.specs.Map.{keys_of}
use Rattle.salt_deps.proofs.walks.comers.Goals as goal

pub loop-next-init : goal.loop-next-init
loop-next-init c =
    let done = c.args.base ∷ c.args.finished.now.keys in (
      starts-all (against (reads_done (reads_in c.args.readings.now) done)) c.args.starts.now c.new-seen.result.keys c.new-ahead.result.items c.see_all.new.seen.keys c.see_all.new.ahead.items
          c.new-seen.ensures.empty c.new-ahead.ensures.items c.in_ok-see_all.ensures,
      unmet (λ x. has_id x c.args.readings.now.group.readers.keys && has_id x done) c.see_all.new.seen.keys,
    )

pub loop-next-smaller : goal.loop-next-smaller
loop-next-smaller c =
    let old = c.args.readings.now in
    let all = keys_of old.links.sources.entries ++ old.group.readers.keys in
    subst (λ (l : List Id). unseen all c.see_all-in-Some.new.seen.keys + length c.see_all-in-Some.new.ahead.items < unseen all c.loop-next.seen.keys + length l) (sym {A = List Id} c.in-Some.ensures.items)
    (readers-less old.links.sources c.loop-next.met old.group.readers.keys old.group.sources.keys (c.args.base ∷ c.args.finished.now.keys) c.in-Some.next c.deref.result.now c.loop-next.seen.keys c.pop.new.self.items
    c.see_all-in-Some.new.seen.keys c.see_all-in-Some.new.ahead.items
    (λ x. ap (has_id x) c.deref.ensures.value ∙ c.in_ok-readers.ensures x) c.in_ok-see_all-2.ensures)

pub loop-next-preserved : goal.loop-next-preserved
loop-next-preserved c =
    let old = c.args.readings.now in
    let pair = is_source old.links.sources in
    let readers = old.group.readers.keys in
    let sources = old.group.sources.keys in
    let done = c.args.base ∷ c.args.finished.now.keys in
    let met = c.loop-next.met in
    let next = c.in-Some.next in
    let names = c.deref.result.now in
    let seen = c.loop-next.seen.keys in
    let rest = c.pop.new.self.items in
    let new = c.see_all-in-Some.new.seen.keys in
    let onward = c.see_all-in-Some.new.ahead.items in (
      comes-on pair (reads_in old) met readers sources done c.args.starts.now seen rest new onward names next (λ x y. refl)
          (subst (IsWalk (against (reads_done (reads_in old) done)) c.args.starts.now seen) c.in-Some.ensures.items c.loop-next.invariant.0) c.loop-next.invariant.1
          (λ x. ap (has_id x) c.deref.ensures.value ∙ c.in_ok-readers.ensures x) c.in_ok-see_all-2.ensures,
      subst (λ t. IsMet t (λ x. has_id x readers && has_id x done) new) (sym c.has_met-met.ensures)
          (meets-readers pair met readers sources done next names seen rest new onward c.loop-next.invariant.1
          (λ x. ap (has_id x) c.deref.ensures.value ∙ c.in_ok-readers.ensures x) c.in_ok-see_all-2.ensures),
    )

pub returns : goal.returns
returns c =
    are-comers (reads_done (reads_in c.args.readings.now) (c.args.base ∷ c.args.finished.now.keys)) c.args.starts.now c.loop-next.seen.keys c.loop-next.ahead.items c.loop-next.invariant.0 (nil-from c.loop-next.ahead.items (omega (arith, c.in_default.ensures.cases.0)))
