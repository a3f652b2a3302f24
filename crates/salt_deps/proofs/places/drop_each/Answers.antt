use Rattle.salt_deps.proofs.Writing.{dropped-more, dropped-none, took}
use Rattle.salt_deps.proofs.places.drop_each.Goals as goal
use Rattle.salt_deps.specs.Written.{HasDropped}
use Rattle.salt_model.specs.Tables.{place_cmp}
use Rattle.std.proofs.Common.{subst, take}
use Rattle.std.specs.BTreeMap.{get}

pub loop-place-init : goal.loop-place-init
loop-place-init c = dropped-none c.args.name (get place_cmp c.args.last.now)

pub loop-place-preserved : goal.loop-place-preserved
loop-place-preserved c =
    let at = c.loop-place.place-index in
    let places = c.args.places.now in
    let place = c.place-item.result in
    subst (λ ps. HasDropped c.args.name ps (get place_cmp c.args.last.now) (get place_cmp c.drop_at.new.last)) (took places at place c.loop-place-test.true c.place-item.is)
    (dropped-more c.args.name (take at places) place (get place_cmp c.args.last.now) (get place_cmp c.loop-place.last) (get place_cmp c.drop_at.new.last)
    c.loop-place.invariant c.drop_at.ensures)
