use Rattle.salt_ast.specs.declared.lines.Line.TheVariants.{Nothing}
use Rattle.salt_driver.proofs.Advancing.{none-of, sound-on}
use Rattle.salt_driver.proofs.Counted.{not-faulted, not-told, opening-join, opening-none, opening-said, opening-stop}
use Rattle.salt_driver.proofs.Draining.{Drains, drains-breaks, drains-counted, drains-most, drains-none, drains-on, drains-short, units-behind}
use Rattle.salt_driver.proofs.Untold.{less-room, still-less, told-or-short, told-then}
use Rattle.salt_driver.proofs.opening.drain.Goals as goal
use Rattle.salt_driver.specs.Counting.{armed_at}
use Rattle.salt_driver.specs.Standing.{IsOfSegment}
use Rattle.salt_storage.proofs.Staying.{stays-behind, stays-same}
use Rattle.std.proofs.Common.{subst, sym}
use Rattle.std.proofs.lemmas.Result.{err_from_is_err_and}
use Rattle.std.specs.Prelude.{None, [], ◌<◌, ◌≡◌}

pub loop-next-init : goal.loop-next-init
loop-next-init g c =
    let view = g.D.Disks.view c.args.disks.now in (
      λ p sound at. drains-none (g.E.Stepping.stands_for view) p c.args.first c.args.story.now c.args.database.now c.args.steps.now at,
      opening-none view c.args.story.now,
      c.requires.unarmed,
      stays-same (g.E.Stepping.asked c.args.database.now) view,
      c.requires.able,
      c.requires.plain,
    )

pub go_on-requires-clause-stands : goal.go_on-requires-clause-stands
go_on-requires-clause-stands g c = λ told.
    let r = c.requires.stands (told-then c.loop-next.invariant.3.shape told) in
    let stands_for = g.E.Stepping.stands_for (g.D.Disks.view c.loop-next.disks) in
    let d =
    subst (λ o. Drains stands_for r.0 c.args.first c.args.story.now c.loop-next.database o c.loop-next.story c.args.steps.now c.loop-next.steps) c.in-Some.is (c.loop-next.invariant.0 r.0 r.1 r.2) in
    (d.on.point, sound-on d.on.moves r.0 d.on.point r.1 d.on.inside d.on.runs, d.on.stands)

pub go_on-requires-clause-able : goal.go_on-requires-clause-able
go_on-requires-clause-able g c = c.loop-next.invariant.4

pub go_on-requires-clause-plain : goal.go_on-requires-clause-plain
go_on-requires-clause-plain g c = subst IsOfSegment c.in-Some.is c.loop-next.invariant.5

pub loop-next-smaller : goal.loop-next-smaller
loop-next-smaller g c =
    still-less c.in_ok-next.ensures.within.shape _ _ _ _
    (λ told. subst (λ o. g.E.Openable.to_open c.go_on.new.self c.in_ok-next.next < g.E.Openable.to_open c.loop-next.database o) (sym c.in-Some.is) (c.in_ok-next.ensures.less told))
    (λ untold. less-room c.loop-next.story c.go_on.new.story c.in-Some.event _ c.in_ok-next.ensures.tells c.len-length.ensures c.len-length.type_inv)

pub loop-next-preserved : goal.loop-next-preserved
loop-next-preserved g c =
    let view = g.D.Disks.view in
    let story = c.args.story.now in
    let first = c.args.first in
    let e = c.in-Some.event in
    let stands_for = g.E.Stepping.stands_for (view c.loop-next.disks) in
    let now = g.E.Stepping.stands_for (view c.go_on.new.disks) in
    let known = c.loop-next.invariant in
    let plain = subst IsOfSegment c.in-Some.is known.5 in (
      λ p sound at.
          let d = subst (λ o. Drains stands_for p first story c.loop-next.database o c.loop-next.story c.args.steps.now c.loop-next.steps) c.in-Some.is (known.0 p sound at) in
          let there = sound-on d.on.moves p d.on.point sound d.on.inside d.on.runs in
          let m = c.in_ok-next.ensures.moves d.on.point there d.on.stands in
          drains-on stands_for p sound first at.comes at.opening story c.loop-next.database e c.loop-next.story c.args.steps.now c.loop-next.steps d now c.go_on.new.self c.in_ok-next.next c.go_on.new.story
          c.go_on.new.steps m.0 m.1 m.2 c.in_ok-next.ensures.tells (c.in_ok-next.ensures.ticks d.on.point there d.on.stands),
      opening-join (view c.args.disks.now) (view c.loop-next.disks) (view c.go_on.new.disks) None story c.loop-next.story c.go_on.new.story known.1
          (opening-said (view c.loop-next.disks) (view c.go_on.new.disks) None c.loop-next.story c.go_on.new.story e c.in_ok-next.ensures.counts
          (subst (λ o. armed_at Nothing o ≡ []) c.in-Some.is known.2) (not-told e plain) (not-faulted e plain) c.in_ok-next.ensures.tells),
      c.in_ok-next.ensures.unarmed,
      stays-behind known.3 c.in_ok-next.ensures.within,
      c.go_on.ensures.able,
      c.in_ok-next.ensures.plain,
    )

pub returns-clause-ok : goal.returns-clause-ok
returns-clause-ok g c = λ p sound at.
    let stands_for = g.E.Stepping.stands_for (g.D.Disks.view c.loop-next.disks) in
    (subst (λ o. Drains stands_for p c.args.first c.args.story.now c.loop-next.database o c.loop-next.story c.args.steps.now c.loop-next.steps) (none-of c.loop-next.next c.in_default.not-Some)
    (c.loop-next.invariant.0 p sound at)).on

pub returns-clause-units : goal.returns-clause-units
returns-clause-units g c = λ more grows.
    units-behind c.args.story.now more c.loop-next.story c.events_behind.result.now c.len-told.result c.units_told.result grows c.len-told.ensures c.events_behind.ensures c.units_told.ensures

pub returns-clause-ticks : goal.returns-clause-ticks
returns-clause-ticks g c = λ told.
    let r = c.requires.stands told in
    let stands_for = g.E.Stepping.stands_for (g.D.Disks.view c.loop-next.disks) in
    drains-counted stands_for r.0 c.args.first c.args.story.now c.loop-next.database c.loop-next.story c.args.steps.now c.loop-next.steps
    (subst (λ o. Drains stands_for r.0 c.args.first c.args.story.now c.loop-next.database o c.loop-next.story c.args.steps.now c.loop-next.steps) (none-of c.loop-next.next c.in_default.not-Some)
    (c.loop-next.invariant.0 r.0 r.1 r.2))

pub returns-clause-most : goal.returns-clause-most
returns-clause-most g c = λ p sound at can. (c.loop-next.invariant.0 p sound at).most can

pub returns-clause-counts : goal.returns-clause-counts
returns-clause-counts g c = c.loop-next.invariant.1

pub returns-in_err-next-clause-err : goal.returns-in_err-next-clause-err
returns-in_err-next-clause-err g c =
    let q = err_from_is_err_and c.from_residual.result c.from_residual.ensures.1 in
    rw (q.1, q.2) (λ p sound at.
    let view = g.D.Disks.view c.go_on.new.disks in
    let f = c.go_on.new.self in
    let stands_for = g.E.Stepping.stands_for (g.D.Disks.view c.loop-next.disks) in
    let d = subst (λ o. Drains stands_for p c.args.first c.args.story.now c.loop-next.database o c.loop-next.story c.args.steps.now c.loop-next.steps) c.in-Some.is (c.loop-next.invariant.0 p sound at) in
    drains-breaks stands_for p sound c.args.first at.comes at.opening c.args.story.now c.loop-next.database c.in-Some.event c.loop-next.story c.args.steps.now c.loop-next.steps d (g.E.Stepping.on_devices view f) (g.E.Stepping.flight f) _ c.go_on.new.story
    (c.in_err-next.ensures.halts d.on.point (sound-on d.on.moves p d.on.point sound d.on.inside d.on.runs) d.on.stands))

pub returns-in_err-next-clause-short : goal.returns-in_err-next-clause-short
returns-in_err-next-clause-short g c =
    let q = err_from_is_err_and c.from_residual.result c.from_residual.ensures.1 in
    let view = g.D.Disks.view c.go_on.new.disks in
    let f = c.go_on.new.self in
    let stands_for = g.E.Stepping.stands_for (g.D.Disks.view c.loop-next.disks) in
    rw q.1 (λ told.
    let r = c.requires.stands told in
    let d =
    subst (λ o. Drains stands_for r.0 c.args.first c.args.story.now c.loop-next.database o c.loop-next.story c.args.steps.now c.loop-next.steps) c.in-Some.is (c.loop-next.invariant.0 r.0 r.1 r.2) in
    let here = sound-on d.on.moves r.0 d.on.point r.1 d.on.inside d.on.runs in
    drains-short stands_for r.0 r.1 c.args.first r.2.comes r.2.opening c.args.story.now c.loop-next.database c.in-Some.event c.loop-next.story c.args.steps.now c.loop-next.steps d (g.E.Stepping.on_devices view f) (g.E.Stepping.flight f) _ c.go_on.new.story c.go_on.new.steps
    (c.in_err-next.ensures.halts d.on.point here d.on.stands) (c.in_err-next.ensures.short d.on.point here d.on.stands))

pub returns-in_err-next-clause-most : goal.returns-in_err-next-clause-most
returns-in_err-next-clause-most g c = λ p sound at can.
    let stands_for = g.E.Stepping.stands_for (g.D.Disks.view c.loop-next.disks) in
    let d = subst (λ o. Drains stands_for p c.args.first c.args.story.now c.loop-next.database o c.loop-next.story c.args.steps.now c.loop-next.steps) c.in-Some.is (c.loop-next.invariant.0 p sound at) in
    drains-most stands_for p sound c.args.first at.comes at.opening c.args.story.now c.loop-next.database c.in-Some.event c.loop-next.story c.args.steps.now c.loop-next.steps d c.go_on.new.story
    c.go_on.new.steps (c.in_err-next.ensures.short d.on.point (sound-on d.on.moves p d.on.point sound d.on.inside d.on.runs) d.on.stands) can

pub returns-in_err-next-clause-counts : goal.returns-in_err-next-clause-counts
returns-in_err-next-clause-counts g c =
    let view = g.D.Disks.view in
    let story = c.args.story.now in
    let known = c.loop-next.invariant in
    let q = err_from_is_err_and c.from_residual.result c.from_residual.ensures.1 in
    rw (q.1, q.2) (opening-stop (view c.args.disks.now) (view c.loop-next.disks) (view c.go_on.new.disks) _ story c.loop-next.story c.go_on.new.story c.in-Some.event known.1 c.in_err-next.ensures.counts
    (subst (λ o. armed_at Nothing o ≡ []) c.in-Some.is known.2) (told-or-short _ c.in-Some.event c.loop-next.story c.go_on.new.story (subst IsOfSegment c.in-Some.is known.5) c.in_err-next.ensures.broken))

pub returns-clause-within : goal.returns-clause-within
returns-clause-within g c = c.loop-next.invariant.3

pub returns-in_err-next-clause-within : goal.returns-in_err-next-clause-within
returns-in_err-next-clause-within g c = stays-behind c.loop-next.invariant.3 c.in_err-next.ensures.within

pub returns-clause-able : goal.returns-clause-able
returns-clause-able g c = c.loop-next.invariant.4

pub returns-in_err-next-clause-able : goal.returns-in_err-next-clause-able
returns-in_err-next-clause-able g c = c.go_on.ensures.able
