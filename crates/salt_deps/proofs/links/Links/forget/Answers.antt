use Rattle.salt_deps.proofs.Linking.{forgotten, listed-left, unread}
use Rattle.salt_deps.proofs.links.Links.forget.Goals as goal
use Rattle.salt_deps.specs.Maps.{is_source, items_in, readers_at}
use Rattle.salt_values.specs.Id.{has_id}
use Rattle.salt_values.specs.Id.{is_same_id}
use Rattle.salt_values.specs.declared.id.Id.{Id}
use Rattle.std.proofs.Common.{ap, not, subst, ◌&&◌, ◌∙◌, ◌≡◌}

pub returns : goal.returns
returns c =
    let names = c.unless_none-readers.result.items in
    let are : names ≡ readers_at c.args.self.now.readers c.args.name = c.unless_none-readers.ensures ∙ ap items_in c.remove.ensures.value in
    forgotten c.args.self.now.sources c.unlink_all.new.sources c.remove-2.new.self (readers_at c.args.self.now.readers c.args.name) c.args.name
    (λ x h. c.args.self.now.listed x c.args.name h)
    (subst (λ l. (x y : Id) → is_source c.unlink_all.new.sources x y ≡ (is_source c.args.self.now.sources x y && not (has_id x l && is_same_id y c.args.name))) (c.deref.ensures.value ∙ are) c.unlink_all.ensures)
    (unread c.unlink_all.new.sources c.remove-2.new.self c.args.name c.remove-2.ensures.updates.0)

pub invariant_of-self : goal.invariant_of-self
invariant_of-self c =
    let names = c.unless_none-readers.result.items in
    let are : names ≡ readers_at c.args.self.now.readers c.args.name = c.unless_none-readers.ensures ∙ ap items_in c.remove.ensures.value in
    record {
      listed = listed-left c.args.self.now.sources c.remove-2.new.self c.args.self.now.readers c.remove.new.self c.args.name c.args.self.now.listed c.remove.ensures.updates.0
          (forgotten c.args.self.now.sources c.unlink_all.new.sources c.remove-2.new.self (readers_at c.args.self.now.readers c.args.name) c.args.name
          (λ x h. c.args.self.now.listed x c.args.name h)
          (subst (λ l. (x y : Id) → is_source c.unlink_all.new.sources x y ≡ (is_source c.args.self.now.sources x y && not (has_id x l && is_same_id y c.args.name))) (c.deref.ensures.value ∙ are) c.unlink_all.ensures)
          (unread c.unlink_all.new.sources c.remove-2.new.self c.args.name c.remove-2.ensures.updates.0));
    }
