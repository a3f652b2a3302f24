use Rattle.salt_driver.proofs.Counted.{fewer-stops, opening-fallen, opening_cause, short-counts}
use Rattle.salt_driver.proofs.AtFirst.{finds-by, no-more-behind, same-some}
use Rattle.salt_driver.proofs.finding.try_find.Goals as goal
use Rattle.salt_driver.specs.Counting.{CountsOpening}
use Rattle.salt_driver.specs.Opening.{FindsFirst}
use Rattle.salt_storage.proofs.Staying.{stays-behind}
use Rattle.salt_storage.specs.Answers.{open_disk_err_of}
use Rattle.salt_storage.specs.OpenErr.{OpenErr}
use Rattle.std.proofs.Common.{ap, subst}
use Rattle.std.proofs.lemmas.Result.{err_from_is_err_and}
use Rattle.std.specs.Prelude.{None}

pub returns-in-Ok-clause-found : goal.returns-in-Ok-clause-found
returns-in-Ok-clause-found g c = λ x is.
    let view = g.D.Disks.view in
    let told = (view c.args.disks.now).told in
    let finds = g.S.Storage.finds (view c.args.disks.now) c.args.storage.now in
    let holds = g.S.Storage.holds (view c.open.new.disks) c.open.new.self in
    subst (FindsFirst told finds holds) (same-some c.in-Ok.found x is) (finds-by told finds holds c.in-Ok.found c.in-Ok.ensures.found c.in-Ok.ensures.numbers)

pub returns-in-Ok-clause-counts : goal.returns-in-Ok-clause-counts
returns-in-Ok-clause-counts g c =
    let view = g.D.Disks.view in
    let story = c.args.story.now in
    opening_cause (view c.args.disks.now) (view c.open.new.disks) None story c.in-Ok.ensures.cause

pub returns-in_ok-push-in-Err-Stopped-clause-falls : goal.returns-in_ok-push-in-Err-Stopped-clause-falls
returns-in_ok-push-in-Err-Stopped-clause-falls g c = λ is. record {
  less = no-more-behind _ _ _ _ _ _ c.in-Err-Stopped.ensures.still c.restart.ensures.still;
  falls = c.in_ok-push-in-Err-Stopped.ensures.ok;
}

pub returns-in_ok-push-in-Err-Stopped-clause-counts : goal.returns-in_ok-push-in-Err-Stopped-clause-counts
returns-in_ok-push-in-Err-Stopped-clause-counts g c =
    let view = g.D.Disks.view in
    let stop = c.in-Err-Stopped in
    let story = c.args.story.now in
    opening-fallen (view c.args.disks.now) (view c.open.new.disks) (view c.restart.new.disks) story story c.push.new.self
    (subst (λ (e : OpenErr). CountsOpening (view c.args.disks.now) (view c.open.new.disks) (open_disk_err_of e) story story) stop.field-0-is
    (opening_cause (view c.args.disks.now) (view c.open.new.disks) _ story stop.ensures.cause))
    c.restart.ensures.faults c.restart.ensures.stops c.in_ok-push-in-Err-Stopped.ensures.ok

pub returns-in_ok-push-in-Err-Stopped-clause-fewer : goal.returns-in_ok-push-in-Err-Stopped-clause-fewer
returns-in_ok-push-in-Err-Stopped-clause-fewer g c = λ is.
    let view = g.D.Disks.view in
    let stop = c.in-Err-Stopped in
    let story = c.args.story.now in
    fewer-stops (view c.args.disks.now) (view c.open.new.disks) (view c.restart.new.disks) story story
    (subst (λ (e : OpenErr). CountsOpening (view c.args.disks.now) (view c.open.new.disks) (open_disk_err_of e) story story) stop.field-0-is
    (opening_cause (view c.args.disks.now) (view c.open.new.disks) _ story stop.ensures.cause))
    c.restart.ensures.stops

pub returns-in_ok-push-in-Err-Stopped-clause-within : goal.returns-in_ok-push-in-Err-Stopped-clause-within
returns-in_ok-push-in-Err-Stopped-clause-within g c = stays-behind c.in-Err-Stopped.ensures.within c.restart.ensures.within

pub returns-in_err-push-in-Err-Stopped-clause-counts : goal.returns-in_err-push-in-Err-Stopped-clause-counts
returns-in_err-push-in-Err-Stopped-clause-counts g c =
    let view = g.D.Disks.view in
    let stop = c.in-Err-Stopped in
    let story = c.args.story.now in
    let p = err_from_is_err_and c.from_residual.result c.from_residual.ensures.1 in
    rw (p.1, p.2) (short-counts (view c.args.disks.now) (view c.open.new.disks) _ story story c.push.new.self
    (opening_cause (view c.args.disks.now) (view c.open.new.disks) _ story stop.ensures.cause)
    c.in_err-push-in-Err-Stopped.ensures.err (ap open_disk_err_of stop.field-0-is))

pub returns-in-Ok-clause-unwritten : goal.returns-in-Ok-clause-unwritten
returns-in-Ok-clause-unwritten g c = λ refusal is refused told. (c.in-Ok.ensures.unwritten refusal is refused told, λ h. cc)

pub returns-in_ok-push-in-Err-Stopped-clause-unwritten : goal.returns-in_ok-push-in-Err-Stopped-clause-unwritten
returns-in_ok-push-in-Err-Stopped-clause-unwritten g c = λ refusal is refused told.
    let stop = c.in-Err-Stopped in
    absurd ((stop.ensures.unwritten refusal is refused told).unstopped (ap open_disk_err_of stop.field-0-is))

pub returns-in_err-push-in-Err-Stopped-clause-unwritten : goal.returns-in_err-push-in-Err-Stopped-clause-unwritten
returns-in_err-push-in-Err-Stopped-clause-unwritten g c = λ refusal is refused told.
    let stop = c.in-Err-Stopped in
    absurd ((stop.ensures.unwritten refusal is refused told).unstopped (ap open_disk_err_of stop.field-0-is))

pub restart-requires : goal.restart-requires
restart-requires g c = c.open.ensures.able

pub returns-in-Ok-clause-able : goal.returns-in-Ok-clause-able
returns-in-Ok-clause-able g c = c.open.ensures.able

pub returns-in_ok-push-in-Err-Stopped-clause-able : goal.returns-in_ok-push-in-Err-Stopped-clause-able
returns-in_ok-push-in-Err-Stopped-clause-able g c = c.stands-in-Err-Stopped.ensures.able c.restart.ensures.settled

pub returns-in_err-push-in-Err-Stopped-clause-able : goal.returns-in_err-push-in-Err-Stopped-clause-able
returns-in_err-push-in-Err-Stopped-clause-able g c = c.open.ensures.able

pub returns-in-Err-clause-able : goal.returns-in-Err-clause-able
returns-in-Err-clause-able g c = c.open.ensures.able
