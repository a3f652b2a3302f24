use Rattle.salt_deps.proofs.Writing.{drops-one, listed-dropped}
use Rattle.salt_deps.proofs.places.Writers.drop_program.Goals as goal
use Rattle.salt_deps.specs.Written.{HasDropped, places_at, places_in}
use Rattle.salt_model.specs.Tables.{place_cmp}
use Rattle.std.proofs.Common.{ap, subst, ◌∙◌, ◌≡◌}
use Rattle.std.specs.BTreeMap.{get}

pub returns : goal.returns
returns c =
    let old = c.args.self.now in
    let are : c.unless_none-places.result.items ≡ places_at old.places c.args.name = c.unless_none-places.ensures ∙ ap places_in c.remove.ensures.value in
    drops-one c.args.name (places_at old.places c.args.name) (get place_cmp old.last) (get place_cmp c.drop_each.new.last) (λ q h. old.listed q c.args.name h)
    (subst (λ l. HasDropped c.args.name l (get place_cmp old.last) (get place_cmp c.drop_each.new.last)) (c.deref.ensures.value ∙ are) c.drop_each.ensures)

pub invariant_of-self : goal.invariant_of-self
invariant_of-self c =
    let old = c.args.self.now in
    let are : c.unless_none-places.result.items ≡ places_at old.places c.args.name = c.unless_none-places.ensures ∙ ap places_in c.remove.ensures.value in
    record {
      listed = listed-dropped old.last c.drop_each.new.last old.places c.remove.new.self c.args.name old.listed c.remove.ensures.updates.0
          (drops-one c.args.name (places_at old.places c.args.name) (get place_cmp old.last) (get place_cmp c.drop_each.new.last) (λ q h. old.listed q c.args.name h)
          (subst (λ l. HasDropped c.args.name l (get place_cmp old.last) (get place_cmp c.drop_each.new.last)) (c.deref.ensures.value ∙ are) c.drop_each.ensures));
    }
