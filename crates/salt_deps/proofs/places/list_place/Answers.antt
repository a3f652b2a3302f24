use Rattle.law_states.specs.Members.{In}
use Rattle.law_story.proofs.Lists.{in-left, in-right}
use Rattle.salt_deps.proofs.Writing.{place-added, places-kept}
use Rattle.salt_deps.proofs.places.list_place.Goals as goal
use Rattle.salt_deps.specs.Written.{places_at, places_in}
use Rattle.salt_model.specs.declared.places.Place.{Place}
use Rattle.salt_values.specs.declared.id.Id.{Id}
use Rattle.std.proofs.Common.{List, [], ap, inl, refl, rules, subst, sym, ◌++◌, ◌∙◌, ◌∷◌}

pub returns-in_err-push-clause-kept : goal.returns-in_err-push-clause-kept
returns-in_err-push-clause-kept c =
    places-kept c.args.places.now (c.get_mut.follows.lender c.push.new.self) c.push.new.self c.args.base
    (λ q i. subst (In q) (sym (c.in_err-push.ensures.items ∙ ap places_in c.in-Some.ensures.value)) i) ((c.get_mut.follows.holds c.push.new.self).3 (search rules)).0

pub returns-in-Some-clause-added : goal.returns-in-Some-clause-added
returns-in-Some-clause-added c =
    let before = places_at c.args.places.now c.args.base in
    let items = c.in_ok-push.ensures.items ∙ ap (λ (l : List Place). l ++ c.args.place ∷ []) (ap places_in c.in-Some.ensures.value) in
    place-added c.args.places.now (c.get_mut.follows.lender c.push.new.self) c.push.new.self c.args.base c.args.place
    (subst (In c.args.place) (sym items) (in-right c.args.place before (c.args.place ∷ []) (inl refl))) ((c.get_mut.follows.holds c.push.new.self).3 (search rules)).0

pub returns-in-Some-clause-kept : goal.returns-in-Some-clause-kept
returns-in-Some-clause-kept c =
    let before = places_at c.args.places.now c.args.base in
    let items = c.in_ok-push.ensures.items ∙ ap (λ (l : List Place). l ++ c.args.place ∷ []) (ap places_in c.in-Some.ensures.value) in
    places-kept c.args.places.now (c.get_mut.follows.lender c.push.new.self) c.push.new.self c.args.base
    (λ q i. subst (In q) (sym items) (in-left q before (c.args.place ∷ []) i)) ((c.get_mut.follows.holds c.push.new.self).3 (search rules)).0

pub returns-clause-added : goal.returns-clause-added
returns-clause-added c =
    place-added c.get_mut.follows.lender-at-none c.insert.new.self c.push-2.new.self c.args.base c.args.place
    (subst (In c.args.place) (sym c.in_ok-push-2.ensures.items) (in-right c.args.place c.new-listed.result.items (c.args.place ∷ []) (inl refl)))
    c.in_ok-insert.ensures.updates.0

pub returns-clause-kept : goal.returns-clause-kept
returns-clause-kept c =
    subst (λ m. (b : Id) (q : Place) → In q (places_at m b) → In q (places_at c.insert.new.self b)) c.get_mut.follows.holds-at-none
    (places-kept c.get_mut.follows.lender-at-none c.insert.new.self c.push-2.new.self c.args.base
    (λ q i. absurd (subst (In q) (sym (ap places_in c.in_default.ensures.value ∙ ap (λ m. places_at m c.args.base) (sym c.get_mut.follows.holds-at-none))) i))
    c.in_ok-insert.ensures.updates.0)
