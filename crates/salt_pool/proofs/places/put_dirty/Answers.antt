use Rattle.salt_pool.proofs.Put.{put_found, put_missing}
use Rattle.salt_pool.proofs.places.put_dirty.Goals as goal
use Rattle.salt_pool.specs.declared.places.Dirty.{Dirty}
use Rattle.std.proofs.Common.{Equal, List, ap, arith, get_or, length, nat_cmp, of_calls, rules, set, subst, ◌<◌, ◌≡◌, ◌∙◌}
use Rattle.std.proofs.lemmas.Fn.{always_returns_same}
use Rattle.std.proofs.lemmas.List.{length-set, take_at}

pub insert-requires : goal.insert-requires
insert-requires c =
    let there = put_missing c.args.added c.args.dirty.now.items c.as_slice.result.now c.in-Err.at c.as_slice.ensures.value c.requires.rising c.in-Err.ensures.bound
    (c.in-Err.ensures.position (λ e. e.page) (always_returns_same _ _ _ (λ a r f k. search (rules, of_calls)))) in
    (omega arith, (there.0, c.requires.room there.2))

pub returns-in-Ok : goal.returns-in-Ok
returns-in-Ok c =
    let ds = c.args.dirty.now.items in
    let d = c.args.added in
    let at = c.in-Ok.at in
    let same = c.as_slice.ensures.value in
    let there = c.deref_mut.ensures.value in
    let within = subst (λ (l : List Dirty). at < length l) same c.in-Ok.ensures.bound in
    let own = subst (λ (l : List Dirty). (e : Dirty) → nat_cmp (get_or l at e).page d.page ≡ Equal) same
    (c.in-Ok.ensures.position (λ e. e.page) (always_returns_same _ _ _ (λ a r f k. search (rules, of_calls)))) in
    take_at (set c.deref_mut.result.now at d) _ (length ds) (length-set c.deref_mut.result.now at d ∙ ap (λ (l : List Dirty). length l) there)
    ∙ ap (λ (l : List Dirty). set l at d) there
    ∙ put_found 0 d ds c.requires.rising at within own

pub returns-in-Err : goal.returns-in-Err
returns-in-Err c =
    let there = put_missing c.args.added c.args.dirty.now.items c.as_slice.result.now c.in-Err.at c.as_slice.ensures.value c.requires.rising c.in-Err.ensures.bound
    (c.in-Err.ensures.position (λ e. e.page) (always_returns_same _ _ _ (λ a r f k. search (rules, of_calls)))) in
    c.insert.ensures.items ∙ there.1
