use Rattle.salt_model.specs.declared.events.Owner.{Owner}
use Rattle.salt_locks.specs.Tables.{is_of_another}
use Rattle.salt_values.specs.declared.id.Id.{Id}
use Rattle.salt_conflicts.proofs.Finishing.{no-owner}
use Rattle.salt_conflicts.proofs.Steps.{release-first}
use Rattle.salt_conflicts.proofs.Told.{filter-all}
use Rattle.salt_conflicts.proofs.watching.release_each.Goals as goal
use Rattle.salt_conflicts.specs.Calls.{is_unreleased}
use Rattle.std.proofs.Common.{List, [], ap, arith, drop, get_or, length, sym, ◌+◌, ◌-◌, ◌∙◌, ◌∷◌, ◌≡◌}
use Rattle.std.proofs.lemmas.List.{drop_all, drop_more}
use Rattle.std.specs.List.{filter}

pub loop-left-init : goal.loop-left-init
loop-left-init c =
    let bases = c.args.bases.now in
    let table = c.args.locks.now in (
      omega arith,
      sym (ap (λ (bs : List Id). filter (is_unreleased bs) table) (drop_all (length bases) bases (omega arith)) ∙ filter-all (is_unreleased []) table (λ n i. no-owner n.lock.owner)),
    )

pub loop-left-preserved : goal.loop-left-preserved
loop-left-preserved c =
    let bases = c.args.bases.now in
    let left = c.loop-left.left in
    let inv = c.loop-left.invariant in
    let some = c.loop-left-test.true in
    let under = inv.0 in
    let none : Id = record { boot = 0; seq = 0 } in
    let base : Id = get_or bases (left - 1) none in
    let back : left - 1 + 1 ≡ left = omega (arith, some) in
    let next : drop (left - 1) bases ≡ base ∷ drop left bases =
    drop_more bases (left - 1) none (omega (arith, some, under)) ∙ ap (λ k. base ∷ drop k bases) back in (
      omega (arith, under),
      c.drop_owner.ensures
          ∙ (ap (filter (is_of_another (Owner.Base base))) inv.1
          ∙ (release-first base (drop left bases) c.args.locks.now ∙ ap (λ (bs : List Id). filter (is_unreleased bs) c.args.locks.now) (sym next))),
    )
