use Rattle.law_states.specs.LockCalls.{HasTaken}
use Rattle.law_states.specs.Restoring.{TakenEach, whole}
use Rattle.salt_early.proofs.Each.{taken_more, taken_none}
use Rattle.salt_early.proofs.cover.take_each.Goals as goal
use Rattle.salt_locks.proofs.Fits.{takes}
use Rattle.salt_model.specs.Locks.{lock_of}
use Rattle.salt_model.specs.declared.events.Owner.{Owner}
use Rattle.salt_model.specs.declared.locks.Family.TheVariants.{Alkaline}
use Rattle.std.proofs.Common.{arith, get_or, length, length-take-le, subst, sym, take, take_all, ◌+◌, ◌≡◌, ◌≤◌}
use Rattle.std.proofs.lemmas.List.{take_more}

pub loop-at-init : goal.loop-at-init
loop-at-init c = taken_none c.args.locks.now

pub loop-at-preserved : goal.loop-at-preserved
loop-at-preserved c =
    let u = c.args.unit in
    let tables = c.args.tables.now in
    let at = c.loop-at.at in
    let table = get_or tables at 0 in
    let old = c.args.locks.now in
    let mid = c.loop-at.locks in
    let new = c.grant.new.self in
    let reach = c.whole-reach.result in
    let put : HasTaken at (lock_of (Owner.Unit u) Alkaline reach) mid new =
    subst (HasTaken at (lock_of (Owner.Unit u) Alkaline reach) mid) (sym c.in_ok-grant.ensures.ok) (takes at (lock_of (Owner.Unit u) Alkaline reach) mid) in
    let taken : HasTaken at (lock_of (Owner.Unit u) Alkaline (whole table)) mid new =
    subst (λ r. HasTaken at (lock_of (Owner.Unit u) Alkaline r) mid new) c.whole-reach.ensures put in
    let within : at ≤ length tables = omega (arith, c.loop-at-test.true) in
    let long : length (take at tables) ≡ at = length-take-le at tables within in
    let is : at ≡ 0 + length (take at tables) = omega (arith, long) in
    subst (λ ts. TakenEach u Alkaline 0 ts old new) (sym (take_more tables at 0 c.loop-at-test.true))
    (taken_more u Alkaline 0 (take at tables) table at old mid new is c.loop-at.invariant taken)

pub returns : goal.returns
returns c =
    subst (λ ts. TakenEach c.args.unit Alkaline 0 ts c.args.locks.now c.loop-at.locks) (take_all c.loop-at.at c.args.tables.now c.loop-at-test.false) c.loop-at.invariant
