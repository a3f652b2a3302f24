use Rattle.salt_locks.proofs.Spotting.{handed, never-true}
use Rattle.salt_locks.proofs.spots.Spots.hand_over.Goals as goal
use Rattle.salt_locks.specs.Spots.{spots_at}
use Rattle.salt_locks.specs.declared.spots.Spot.{Spot}
use Rattle.salt_locks.specs.declared.spots.Spots.{Spots}
use Rattle.salt_model.specs.declared.events.Owner.TheVariants.{Base, Unit}
use Rattle.salt_values.specs.Id.{is_same_id}
use Rattle.salt_values.specs.declared.id.Id.{Id}
use Rattle.std.proofs.Common.{List, ap, cond, refl, ◌++◌, ◌∙◌}

pub returns-in-Ok : goal.returns-in-Ok
returns-in-Ok c = λ ls spotted.
    let old = c.args.self.now in
    let taken = c.take-spots.ensures in
    let mid = c.take-spots.new.self in
    let new : Spots = record { alloc = mid.alloc; whole = mid.whole; units = mid.units; bases = c.list_more.new.lists } in
    let was = λ (b : Id). taken.others (Base b) refl in
    handed old new c.args.unit c.args.base ls taken.whole (λ u other. taken.others (Unit u) other)
    (λ b. c.in-Ok.ensures b
    ∙ (ap (λ (l : List Spot). cond (is_same_id b c.args.base) (l ++ c.take-spots.result.items) l) (was b)
    ∙ ap (λ (l : List Spot). cond (is_same_id b c.args.base) (spots_at old (Base b) ++ l) (spots_at old (Base b))) taken.spots))
    spotted

pub returns-in-Err : goal.returns-in-Err
returns-in-Err c = λ ls spotted whole. absurd (never-true whole)
