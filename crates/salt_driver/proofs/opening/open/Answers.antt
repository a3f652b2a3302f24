use Rattle.salt_driver.proofs.Counted.{opening-join, opening-none}
use Rattle.salt_driver.proofs.Falling.{breaks-behind, falls-behind, not-fallen, reopens-behind}
use Rattle.salt_driver.proofs.Untold.{told-then}
use Rattle.salt_driver.proofs.opening.open.Goals as goal
use Rattle.salt_driver.specs.Reopening.{OpensOrFalls}
use Rattle.salt_storage.proofs.Staying.{stays-behind, stays-same}
use Rattle.std.proofs.Common.{ap, subst}
use Rattle.std.proofs.lemmas.Result.{err_from_is_err_and}
use Rattle.std.specs.Prelude.{Bool, Ok}

pub stops-init : goal.stops-init
stops-init g c =
    let view = g.D.Disks.view c.args.disks.now in
    let story = c.args.story.now in (
      c.requires.settled,
      (λ start trace down. not-fallen (g.E.Stepping.on_devices view c.args.database.now) (g.E.Stepping.flight c.args.database.now) start trace story down),
      opening-none view story,
      stays-same (g.E.Stepping.asked c.args.database.now) view,
      c.requires.able,
    )

pub try_open-requires-clause-down : goal.try_open-requires-clause-down
try_open-requires-clause-down g c = λ told.
    let d = c.requires.down (told-then c.stops.invariant.3.shape told) in
    let f = c.stops.invariant.1 d.0 d.1 d.2 in
    (d.0, f.after, f.down)

pub returns-in_err-try_open-clause-err : goal.returns-in_err-try_open-clause-err
returns-in_err-try_open-clause-err g c =
    let view = g.D.Disks.view in
    let p = err_from_is_err_and c.from_residual.result c.from_residual.ensures.1 in
    rw (p.1, p.2) (λ start trace d.
    let f = c.stops.invariant.1 start trace d in
    breaks-behind _ (g.E.Stepping.on_devices (view c.try_open.new.disks) c.try_open.new.database) _ (g.E.Stepping.flight c.try_open.new.database) start trace c.args.story.now c.stops.story c.try_open.new.story f _
    (c.in_err-try_open.ensures.err start f.after f.down))

pub returns-in_err-try_open-clause-counts : goal.returns-in_err-try_open-clause-counts
returns-in_err-try_open-clause-counts g c =
    let view = g.D.Disks.view in
    let p = err_from_is_err_and c.from_residual.result c.from_residual.ensures.1 in
    rw (p.1, p.2) (opening-join (view c.args.disks.now) (view c.stops.disks) (view c.try_open.new.disks) _ c.args.story.now c.stops.story c.try_open.new.story c.stops.invariant.2 c.in_err-try_open.ensures.counts)

pub stops-preserved : goal.stops-preserved
stops-preserved g c =
    let view = g.D.Disks.view in
    let devices = g.E.Stepping.on_devices (view c.try_open.new.disks) c.try_open.new.database in
    let flies = g.E.Stepping.flight c.try_open.new.database in
    let fell = c.if-not-branch.true in
    let told = c.args.story.now in (
      c.in_ok-try_open.ensures.settled (ap Ok fell),
      (λ start trace d.
          let f = c.stops.invariant.1 start trace d in
          falls-behind _ devices _ flies start trace told c.stops.story c.try_open.new.story f
          (subst (λ (b : Bool). OpensOrFalls b (g.E.Stepping.stands_for (view c.try_open.new.disks) c.try_open.new.database) devices flies start f.after c.stops.story c.try_open.new.story) fell (c.in_ok-try_open.ensures.ok start f.after f.down))),
      opening-join (view c.args.disks.now) (view c.stops.disks) (view c.try_open.new.disks) _ told c.stops.story c.try_open.new.story c.stops.invariant.2 c.in_ok-try_open.ensures.counts,
      stays-behind c.stops.invariant.3 c.in_ok-try_open.ensures.within,
      c.try_open.ensures.able,
    )

pub returns-clause-ok : goal.returns-clause-ok
returns-clause-ok g c = λ start trace d.
    let view = g.D.Disks.view in
    let f = c.stops.invariant.1 start trace d in
    let stands_for = g.E.Stepping.stands_for (view c.try_open.new.disks) in
    let devices = g.E.Stepping.on_devices (view c.try_open.new.disks) c.try_open.new.database in
    let flies = g.E.Stepping.flight c.try_open.new.database in
    reopens-behind _ devices _ flies start trace c.args.story.now c.stops.story c.try_open.new.story f stands_for c.try_open.new.database
    (subst (λ (b : Bool). OpensOrFalls b (stands_for c.try_open.new.database) devices flies start f.after c.stops.story c.try_open.new.story) c.if-not-branch.false (c.in_ok-try_open.ensures.ok start f.after f.down))

pub returns-clause-counts : goal.returns-clause-counts
returns-clause-counts g c =
    let view = g.D.Disks.view in
    opening-join (view c.args.disks.now) (view c.stops.disks) (view c.try_open.new.disks) _ c.args.story.now c.stops.story c.try_open.new.story c.stops.invariant.2 c.in_ok-try_open.ensures.counts

pub returns-in_err-try_open-clause-within : goal.returns-in_err-try_open-clause-within
returns-in_err-try_open-clause-within g c = stays-behind c.stops.invariant.3 c.in_err-try_open.ensures.within

pub returns-clause-within : goal.returns-clause-within
returns-clause-within g c = stays-behind c.stops.invariant.3 c.in_ok-try_open.ensures.within

pub try_open-requires-clause-able : goal.try_open-requires-clause-able
try_open-requires-clause-able g c = c.stops.invariant.4

pub returns-clause-able : goal.returns-clause-able
returns-clause-able g c = c.try_open.ensures.able

pub returns-in_err-try_open-clause-able : goal.returns-in_err-try_open-clause-able
returns-in_err-try_open-clause-able g c = c.try_open.ensures.able

pub returns-in_err-try_open-clause-late : goal.returns-in_err-try_open-clause-late
returns-in_err-try_open-clause-late g c = let p = err_from_is_err_and c.from_residual.result c.from_residual.ensures.1 in rw (p.1, p.2) c.in_err-try_open.ensures.late
