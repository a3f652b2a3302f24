use Rattle.salt_locks.proofs.Runs.{none_left, none_salted}
use Rattle.salt_locks.proofs.Spotting.{next-spot}
use Rattle.salt_locks.proofs.salts.salt_at.Goals as goal
use Rattle.salt_locks.specs.Spots.{AreCounted}
use Rattle.salt_model.specs.declared.events.Owner.{Owner}
use Rattle.std.proofs.Common.{arith, drop, subst, sym, ◌+◌, ◌∙◌}
use Rattle.std.proofs.lemmas.List.{drop_all}

pub loop-spot-preserved : goal.loop-spot-preserved
loop-spot-preserved c =
    let inv = c.loop-spot.invariant in
    let now = c.salt_spot.ensures in (
      now.order,
      now.salted ∙ inv.1,
      now.gone (drop (c.loop-spot.spot-index + 1) c.args.spots.now)
          (subst (λ ss. AreCounted (Owner.Unit c.args.unit) ss c.loop-spot.locks.items) (next-spot c.args.spots.now c.loop-spot.spot-index c.spot-item.result c.loop-spot-test.true c.spot-item.is) inv.2),
    )

pub returns : goal.returns
returns c =
    let inv = c.loop-spot.invariant in
    let test = c.loop-spot-test.false in
    let none = subst (λ ss. AreCounted (Owner.Unit c.args.unit) ss c.loop-spot.locks.items) (drop_all c.loop-spot.spot-index c.args.spots.now (omega (arith, test))) inv.2 in
    sym (none_salted c.args.unit c.args.base c.loop-spot.locks.items (none_left (Owner.Unit c.args.unit) c.loop-spot.locks.items none)) ∙ inv.1
