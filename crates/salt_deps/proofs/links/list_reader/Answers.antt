use Rattle.salt_deps.proofs.Linking.{lists-kept, listed-one, listed-same}
use Rattle.salt_deps.proofs.links.list_reader.Goals as goal
use Rattle.salt_deps.specs.Maps.{is_listed, items_in, readers_at}
use Rattle.salt_values.specs.Id.{is_same_id}
use Rattle.salt_values.specs.declared.id.Id.{Id}
use Rattle.std.proofs.Common.{List, [], ap, rules, subst, sym, ◌&&◌, ◌||◌, ◌++◌, ◌∙◌, ◌∷◌, ◌≡◌}

pub returns-in_err-push-clause-kept : goal.returns-in_err-push-clause-kept
returns-in_err-push-clause-kept c x y h =
    listed-same c.args.readers.now (c.get_mut.follows.lender c.push.new.self) c.push.new.self c.args.source (c.in_err-push.ensures.items ∙ ap items_in c.in-Some.ensures.value)
    ((c.get_mut.follows.holds c.push.new.self).3 (search rules)).0 x y ∙ h

pub returns-in-Some-clause-ok : goal.returns-in-Some-clause-ok
returns-in-Some-clause-ok c =
    listed-one c.args.readers.now (c.get_mut.follows.lender c.push.new.self) c.push.new.self c.args.reader c.args.source
    (c.in_ok-push.ensures.items ∙ ap (λ (l : List Id). l ++ c.args.reader ∷ []) (ap items_in c.in-Some.ensures.value))
    ((c.get_mut.follows.holds c.push.new.self).3 (search rules)).0

pub returns-in-Some-clause-kept : goal.returns-in-Some-clause-kept
returns-in-Some-clause-kept c =
    lists-kept c.args.readers.now (c.get_mut.follows.lender c.push.new.self) (λ x y. is_same_id x c.args.reader && is_same_id y c.args.source)
    (listed-one c.args.readers.now (c.get_mut.follows.lender c.push.new.self) c.push.new.self c.args.reader c.args.source
    (c.in_ok-push.ensures.items ∙ ap (λ (l : List Id). l ++ c.args.reader ∷ []) (ap items_in c.in-Some.ensures.value))
    ((c.get_mut.follows.holds c.push.new.self).3 (search rules)).0)

pub returns-clause-ok : goal.returns-clause-ok
returns-clause-ok c =
    subst (λ m. (x y : Id) → is_listed c.insert.new.self x y ≡ (is_listed m x y || (is_same_id x c.args.reader && is_same_id y c.args.source))) c.get_mut.follows.holds-at-none
    (listed-one c.get_mut.follows.lender-at-none c.insert.new.self c.push-2.new.self c.args.reader c.args.source
    (c.in_ok-push-2.ensures.items ∙ (ap (λ (l : List Id). l ++ c.args.reader ∷ []) c.new-names.ensures.items
    ∙ ap (λ (l : List Id). l ++ c.args.reader ∷ []) (ap items_in c.in_default.ensures.value ∙ ap (λ m. readers_at m c.args.source) (sym c.get_mut.follows.holds-at-none))))
    c.in_ok-insert.ensures.updates.0)

pub returns-clause-kept : goal.returns-clause-kept
returns-clause-kept c = lists-kept c.args.readers.now c.insert.new.self (λ x y. is_same_id x c.args.reader && is_same_id y c.args.source) (returns-clause-ok c)
