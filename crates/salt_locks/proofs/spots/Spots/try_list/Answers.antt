use Rattle.salt_locks.proofs.Spotting.{lists-base, lists-unit}
use Rattle.salt_locks.proofs.spots.Spots.try_list.Goals as goal
use Rattle.salt_locks.specs.Spots.{id_cmp, spots_in}
use Rattle.salt_locks.specs.declared.spots.Spot.{Spot}
use Rattle.salt_locks.specs.declared.spots.Spots.{Spots}
use Rattle.salt_values.specs.Id.{is_same_id}
use Rattle.salt_values.specs.declared.id.Id.{Id}
use Rattle.std.proofs.Common.{List, cond, refl, subst, ◌++◌, ◌≡◌}
use Rattle.std.proofs.lemmas.Result.{on_ok_weaker}
use Rattle.std.specs.BTreeMap.{get}

pub returns-in-Unit : goal.returns-in-Unit
returns-in-Unit c =
    let old = c.args.self.now in
    let new : Spots = record { alloc = old.alloc; whole = old.whole; units = c.list_more.new.lists; bases = old.bases } in
    on_ok_weaker c.list_more.result
    (λ h ls. lists-unit old new c.in-Unit.unit c.args.lock.now ls c.in-Unit.is refl refl
    (subst (λ (more : List Spot). (b : Id) → spots_in (get id_cmp new.units b) ≡ cond (is_same_id b c.in-Unit.unit) (spots_in (get id_cmp old.units b) ++ more) (spots_in (get id_cmp old.units b)))
    c.in_ok-spots.ensures h))
    c.list_more.ensures

pub returns-in-Base : goal.returns-in-Base
returns-in-Base c =
    let old = c.args.self.now in
    let new : Spots = record { alloc = old.alloc; whole = old.whole; units = old.units; bases = c.list_more-in-Base.new.lists } in
    on_ok_weaker c.list_more-in-Base.result
    (λ h ls. lists-base old new c.in-Base.base c.args.lock.now ls c.in-Base.is refl refl
    (subst (λ (more : List Spot). (b : Id) → spots_in (get id_cmp new.bases b) ≡ cond (is_same_id b c.in-Base.base) (spots_in (get id_cmp old.bases b) ++ more) (spots_in (get id_cmp old.bases b)))
    c.in_ok-spots.ensures h))
    c.list_more-in-Base.ensures
