use Rattle.salt_deps.proofs.Writing.{listed-removed}
use Rattle.salt_deps.proofs.places.Writers.forget.Goals as goal
use Rattle.salt_model.specs.Tables.{place_cmp}
use Rattle.std.proofs.Common.{None, cond, subst, ◌≡◌}
use Rattle.std.specs.BTreeMap.{get}
use Rattle.std.specs.Ordering.{is_eq}

pub returns-clause-ok : goal.returns-clause-ok
returns-clause-ok c q =
    subst (λ p. get place_cmp c.remove.new.self q ≡ cond (is_eq (place_cmp p q)) None (get place_cmp c.args.self.now.last q)) c.in_ok-place.ensures (c.remove.ensures.updates.0 q)

pub invariant_of-self : goal.invariant_of-self
invariant_of-self c = record {
  listed = listed-removed c.args.self.now.last c.remove.new.self c.args.self.now.places c.in_ok-place.place c.args.self.now.listed c.remove.ensures.updates.0;
}
