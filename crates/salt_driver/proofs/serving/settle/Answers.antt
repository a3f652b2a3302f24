use Rattle.std.proofs.lemmas.Result.{err_from_is_err_and}
use Rattle.law_states.specs.Points.{Moves, Say}
use Rattle.salt_driver.proofs.Advancing.{advance-none, advance-on, advance-once, none-of, sound-on, stop-saying}
use Rattle.salt_driver.proofs.Counted.{count-all, count-none, count-on, count-stop}
use Rattle.salt_driver.proofs.RefusedAlone.{at-hand}
use Rattle.salt_driver.proofs.Refusing.{refused-rests}
use Rattle.salt_driver.proofs.Untold.{less-room, still-less, told-now, told-or-short, told-then}
use Rattle.salt_driver.proofs.serving.settle.Goals as goal
use Rattle.salt_driver.specs.Counting.{CountsSoFar}
use Rattle.salt_driver.specs.Standing.{AdvancesInLine, IsAt, IsOfSegment, left_to_come}
use Rattle.salt_model.specs.declared.events.Event.{Event}
use Rattle.salt_storage.proofs.Staying.{stays-behind, stays-same}
use Rattle.std.proofs.Common.{arith, inl, inr, subst, sym, ◌∙◌}
use Rattle.std.specs.Prelude.{Some, refl, ◌<◌}

pub loop-next-init : goal.loop-next-init
loop-next-init g c = (
  λ p sound at. advance-none (g.E.Stepping.stands_for (g.D.Disks.view c.args.disks.now)) c.args.line.now p c.args.story.now c.args.engine.now c.args.first at,
  count-none _ (g.D.Disks.view c.args.disks.now) c.args.first c.args.story.now,
  λ told. omega arith,
  stays-same (g.E.Stepping.asked c.args.engine.now) (g.D.Disks.view c.args.disks.now),
  λ r is told. (inl refl, refl),
  c.requires.able,
  c.requires.plain,
)

pub say-requires-clause-stands : goal.say-requires-clause-stands
say-requires-clause-stands g c = λ told.
    let r = c.requires.stands (told-then c.loop-next.invariant.3.shape told) in
    let here = c.loop-next.invariant.0 r.0 r.1 r.2 in (
      here.point,
      sound-on here.moves r.0 here.point r.1 here.inside here.runs,
      subst (λ o. IsAt (g.E.Stepping.stands_for (g.D.Disks.view c.loop-next.disks) c.loop-next.engine) c.args.line.now o here.point) c.in-Some.is here.stands,
    )

pub say-requires-clause-able : goal.say-requires-clause-able
say-requires-clause-able g c = c.loop-next.invariant.5

pub say-requires-clause-plain : goal.say-requires-clause-plain
say-requires-clause-plain g c = subst IsOfSegment c.in-Some.is c.loop-next.invariant.6

pub loop-next-smaller : goal.loop-next-smaller
loop-next-smaller g c =
    still-less c.in_ok-next.ensures.within.shape _ _ _ _
    (λ told. subst (λ o. left_to_come (g.E.Stepping.waiting c.say.new.self) c.in_ok-next.next < left_to_come (g.E.Stepping.waiting c.loop-next.engine) o) (sym c.in-Some.is)
    (c.in_ok-next.ensures.less told))
    (λ untold. less-room c.loop-next.story c.say.new.story c.in-Some.event _ c.in_ok-next.ensures.tells c.len-length.ensures c.len-length.type_inv)

pub loop-next-preserved : goal.loop-next-preserved
loop-next-preserved g c =
    let view = g.D.Disks.view in
    let line = c.args.line.now in
    let known = c.loop-next.invariant in
    let plain = subst IsOfSegment c.in-Some.is known.6 in (
      λ p sound starts.
          let here =
          subst (λ o. AdvancesInLine (g.E.Stepping.stands_for (view c.loop-next.disks) c.loop-next.engine) line p c.args.story.now o c.loop-next.story) c.in-Some.is (known.0 p sound starts) in
          let r = c.in_ok-next.ensures.moves here.point (sound-on here.moves p here.point sound here.inside here.runs) here.stands in
          advance-on (g.E.Stepping.stands_for (view c.say.new.disks)) line (g.E.Stepping.stands_for (view c.loop-next.disks)) p c.args.story.now c.loop-next.story c.say.new.story c.loop-next.engine c.say.new.self (Some c.in-Some.event) c.in_ok-next.next here
          (advance-once (g.E.Stepping.stands_for (view c.say.new.disks)) line (Say c.in-Some.event) tt here.point r.0 c.loop-next.story c.say.new.story c.say.new.self c.in_ok-next.next r.1 r.2 c.in_ok-next.ensures.tells),
      count-on _ (view c.args.disks.now) (view c.loop-next.disks) (view c.say.new.disks) c.args.first c.args.story.now c.loop-next.story c.say.new.story c.in-Some.event c.in_ok-next.next
          (subst (λ o. CountsSoFar c.args.line.now (view c.args.disks.now) (view c.loop-next.disks) c.args.first c.args.story.now c.loop-next.story o) c.in-Some.is known.1)
          c.in_ok-next.ensures.counts plain c.in_ok-next.ensures.tells,
      (λ told. let now = c.in_ok-next.ensures.turns (told-now known.3.shape told) in let was = known.2 told in omega arith),
      stays-behind known.3 c.in_ok-next.ensures.within,
      λ r is told.
          let s = c.requires.stands told in
          let first = known.0 s.0 s.1 s.2 in
          let at = subst (λ o. IsAt (g.E.Stepping.stands_for (view c.loop-next.disks) c.loop-next.engine) line o first.point) c.in-Some.is first.stands in
          let sound = sound-on first.moves s.0 first.point s.1 first.inside first.runs in
          let moved = c.in_ok-next.ensures.moves first.point sound at in
          let still = known.4 r is told in
          let event = at-hand r c.args.first c.loop-next.next c.in-Some.event is still.0 c.in-Some.is in
          let rests = refused-rests r first.point moved.0 sound at.serves (subst (λ (e : Event). Moves (Say e) first.point moved.0) event moved.1) in
          (inr (sym moved.2.comes ∙ rests), c.in_ok-next.ensures.refused r event (told-now known.3.shape told) ∙ still.1),
      c.say.ensures.able,
      c.in_ok-next.ensures.plain,
    )

pub returns-clause-ok : goal.returns-clause-ok
returns-clause-ok g c = λ p sound starts.
    subst (λ o. AdvancesInLine (g.E.Stepping.stands_for (g.D.Disks.view c.loop-next.disks) c.loop-next.engine) c.args.line.now p c.args.story.now o c.loop-next.story)
    (none-of c.loop-next.next c.in_default.not-Some) (c.loop-next.invariant.0 p sound starts)

pub returns-clause-turns : goal.returns-clause-turns
returns-clause-turns g c = c.loop-next.invariant.2

pub returns-clause-refused : goal.returns-clause-refused
returns-clause-refused g c = λ r is told. (c.loop-next.invariant.4 r is told).1

pub returns-in_err-next-clause-refused : goal.returns-in_err-next-clause-refused
returns-in_err-next-clause-refused g c = λ r is told.
    let still = c.loop-next.invariant.4 r is told in
    c.in_err-next.ensures.refused r (at-hand r c.args.first c.loop-next.next c.in-Some.event is still.0 c.in-Some.is) (told-now c.loop-next.invariant.3.shape told) ∙ still.1

pub returns-clause-counts : goal.returns-clause-counts
returns-clause-counts g c =
    let view = g.D.Disks.view in
    count-all _ (view c.args.disks.now) (view c.loop-next.disks) c.args.first c.args.story.now c.loop-next.story
    (subst (λ o. CountsSoFar c.args.line.now (view c.args.disks.now) (view c.loop-next.disks) c.args.first c.args.story.now c.loop-next.story o)
    (none-of c.loop-next.next c.in_default.not-Some) c.loop-next.invariant.1)

pub returns-in_err-next-clause-err : goal.returns-in_err-next-clause-err
returns-in_err-next-clause-err g c =
    let p = err_from_is_err_and c.from_residual.result c.from_residual.ensures.1 in
    rw (p.1, p.2) (λ p sound at.
    let stands_for = g.E.Stepping.stands_for (g.D.Disks.view c.loop-next.disks) in
    let line = c.args.line.now in
    let here =
    subst (λ o. AdvancesInLine (stands_for c.loop-next.engine) line p c.args.story.now o c.loop-next.story) c.in-Some.is (c.loop-next.invariant.0 p sound at) in
    stop-saying stands_for line _ _ _ c.loop-next.engine c.in-Some.event p c.args.story.now c.loop-next.story c.say.new.story here
    (c.in_err-next.ensures.halts here.point (sound-on here.moves p here.point sound here.inside here.runs) here.stands))

pub returns-in_err-next-clause-counts : goal.returns-in_err-next-clause-counts
returns-in_err-next-clause-counts g c =
    let view = g.D.Disks.view in
    let line = c.args.line.now in
    let known = c.loop-next.invariant in
    let p = err_from_is_err_and c.from_residual.result c.from_residual.ensures.1 in
    rw (p.1, p.2) (count-stop _ (view c.args.disks.now) (view c.loop-next.disks) (view c.say.new.disks) _ c.args.first c.args.story.now c.loop-next.story c.say.new.story c.in-Some.event
    (subst (λ o. CountsSoFar c.args.line.now (view c.args.disks.now) (view c.loop-next.disks) c.args.first c.args.story.now c.loop-next.story o) c.in-Some.is known.1)
    c.in_err-next.ensures.counts (told-or-short _ c.in-Some.event c.loop-next.story c.say.new.story (subst IsOfSegment c.in-Some.is known.6) c.in_err-next.ensures.broken))

pub returns-in_err-next-clause-within : goal.returns-in_err-next-clause-within
returns-in_err-next-clause-within g c = stays-behind c.loop-next.invariant.3 c.in_err-next.ensures.within

pub returns-clause-within : goal.returns-clause-within
returns-clause-within g c = c.loop-next.invariant.3

pub returns-clause-able : goal.returns-clause-able
returns-clause-able g c = c.loop-next.invariant.5

pub returns-in_err-next-clause-able : goal.returns-in_err-next-clause-able
returns-in_err-next-clause-able g c = c.say.ensures.able
