use Rattle.std.proofs.lemmas.Result.{err_from_is_err_and}
use Rattle.law_states.specs.Points.{Turn}
use Rattle.salt_driver.proofs.Advancing.{finish-where, none-of, sound-moved, sound-on, stop-turned, stop-turning, turn-on}
use Rattle.salt_driver.proofs.Counted.{count-all, count-join, count-short, count-so-far, count-turn, counts-cause}
use Rattle.salt_driver.proofs.RefusedAlone.{turned-to-none}
use Rattle.salt_driver.proofs.Untold.{not-both, still-less, told-now, told-then}
use Rattle.salt_driver.proofs.serving.finish.Goals as goal
use Rattle.salt_driver.specs.Counting.{CountsSoFar}
use Rattle.salt_driver.specs.Standing.{IsAt}
use Rattle.salt_storage.proofs.Staying.{stays-behind}
use Rattle.std.proofs.Common.{arith, subst, sym, ◌∙◌}
use Rattle.std.specs.Prelude.{IsTrue, None, [], refl}

pub settle-requires-clause-stands : goal.settle-requires-clause-stands
settle-requires-clause-stands g c = c.requires.stands

pub settle-requires-clause-able : goal.settle-requires-clause-able
settle-requires-clause-able g c = c.requires.able

pub settle-requires-clause-plain : goal.settle-requires-clause-plain
settle-requires-clause-plain g c = c.requires.plain

pub loop-base-init : goal.loop-base-init
loop-base-init g c = (
  c.in_ok-settle.ensures.ok,
  count-so-far _ (g.D.Disks.view c.args.disks.now) (g.D.Disks.view c.settle.new.disks) c.args.first c.args.story.now c.settle.new.story c.in_ok-settle.ensures.counts,
  c.in_ok-settle.ensures.within,
  λ r p sound at none is told. c.in_ok-settle.ensures.refused r is told,
  c.settle.ensures.able,
)

pub count_turn-requires : goal.count_turn-requires
count_turn-requires g c = c.loop-base.invariant.4

pub turn-requires-clause-able : goal.turn-requires-clause-able
turn-requires-clause-able g c = c.count_turn.ensures.able

pub turn-requires-clause-stands : goal.turn-requires-clause-stands
turn-requires-clause-stands g c = λ told.
    let same = c.in_ok-turns.ensures.same in
    let s = c.requires.stands (told-then c.loop-base.invariant.2.shape (subst (λ d. IsTrue (g.D.Disks.view d).told) same told)) in
    let here = c.loop-base.invariant.0 s.0 s.1 s.2 in
    let sound = sound-on here.moves s.0 here.point s.1 here.inside here.runs in (
      here.point,
      sound,
      subst (λ d. IsAt (g.E.Stepping.stands_for (g.D.Disks.view d) c.loop-base.engine) c.args.line.now None here.point) (sym same) here.stands,
      sym (c.next_turn.ensures here.point sound here.stands.state) ∙ c.in-Some.is,
    )

pub settle-requires-in-Some-clause-stands : goal.settle-requires-in-Some-clause-stands
settle-requires-in-Some-clause-stands g c = λ told.
    let same = c.in_ok-turns.ensures.same in
    let s = c.requires.stands (told-then (stays-behind (stays-behind c.loop-base.invariant.2 c.count_turn.ensures.within) c.in_ok-next.ensures.within).shape told) in
    let here = c.loop-base.invariant.0 s.0 s.1 s.2 in
    let sound = sound-on here.moves s.0 here.point s.1 here.inside here.runs in
    let stands = subst (λ d. IsAt (g.E.Stepping.stands_for (g.D.Disks.view d) c.loop-base.engine) c.args.line.now None here.point) (sym same) here.stands in
    let r = c.in_ok-next.ensures.moves here.point sound stands (sym (c.next_turn.ensures here.point sound here.stands.state) ∙ c.in-Some.is) in
    (r.0, sound-moved (Turn c.in-Some.base) here.point r.0 tt sound r.1, r.2)

pub settle-requires-in-Some-clause-able : goal.settle-requires-in-Some-clause-able
settle-requires-in-Some-clause-able g c = c.turn.ensures.able

pub settle-requires-in-Some-clause-plain : goal.settle-requires-in-Some-clause-plain
settle-requires-in-Some-clause-plain g c = c.in_ok-next.ensures.plain

pub loop-base-smaller : goal.loop-base-smaller
loop-base-smaller g c =
    let turned = c.in_ok-next.ensures.within in
    let counted = c.count_turn.ensures.within in
    still-less (stays-behind (stays-behind counted turned) c.in_ok-settle-2.ensures.within).shape _ _ _ _
    (λ told.
    let behind = c.in_ok-settle-2.ensures.turns (told-now (stays-behind counted turned).shape told) in
    let fewer = c.in_ok-next.ensures.fewer (told-now counted.shape told) in
    omega arith)
    (λ untold. let more = c.in_ok-turns.ensures.more untold in let fits = c.count_turn.type_inv in omega arith)

pub loop-base-preserved : goal.loop-base-preserved
loop-base-preserved g c =
    let view = g.D.Disks.view in
    let same = c.in_ok-turns.ensures.same in
    let known = c.loop-base.invariant in (
      λ p starts at.
          let here = known.0 p starts at in
          let sound = sound-on here.moves p here.point starts here.inside here.runs in
          let stands = subst (λ d. IsAt (g.E.Stepping.stands_for (view d) c.loop-base.engine) c.args.line.now None here.point) (sym same) here.stands in
          let r = c.in_ok-next.ensures.moves here.point sound stands (sym (c.next_turn.ensures here.point sound here.stands.state) ∙ c.in-Some.is) in
          turn-on (g.E.Stepping.stands_for (view c.settle-in-Some.new.disks)) c.args.line.now (g.E.Stepping.stands_for (view c.loop-base.disks)) c.in-Some.base p r.0 c.args.story.now c.loop-base.story c.settle-in-Some.new.story c.loop-base.engine c.settle-in-Some.new.engine here r.1
          (c.in_ok-settle-2.ensures.ok r.0 (sound-moved (Turn c.in-Some.base) here.point r.0 tt sound r.1) r.2),
      count-so-far _ (view c.args.disks.now) (view c.settle-in-Some.new.disks) c.args.first c.args.story.now c.settle-in-Some.new.story
          (count-join _ (view c.args.disks.now) (view c.turn.new.disks) (view c.settle-in-Some.new.disks) None c.args.first c.in_ok-next.next c.args.story.now c.loop-base.story c.settle-in-Some.new.story
          (count-turn _ (view c.args.disks.now) (view c.count_turn.new.disks) (view c.turn.new.disks) c.args.first c.args.story.now c.loop-base.story c.in_ok-next.next
          (subst (λ d. CountsSoFar c.args.line.now (view c.args.disks.now) (view d) c.args.first c.args.story.now c.loop-base.story None) (sym same) known.1) c.in_ok-next.ensures.counts)
          c.in_ok-settle-2.ensures.counts),
      stays-behind (stays-behind (stays-behind known.2 c.count_turn.ensures.within) c.in_ok-next.ensures.within) c.in_ok-settle-2.ensures.within,
      λ r p starts at none is told.
          let here = known.0 p starts at in
          let sound = sound-on here.moves p here.point starts here.inside here.runs in
          absurd (turned-to-none r here.moves p here.point c.next_turn.result c.in-Some.base here.inside here.runs none (at.comes ∙ is) here.stands.comes (c.next_turn.ensures here.point sound here.stands.state) c.in-Some.is),
      c.settle-in-Some.ensures.able,
    )

pub returns-clause-ok : goal.returns-clause-ok
returns-clause-ok g c = λ p starts at.
    let here = c.loop-base.invariant.0 p starts at in
    let sound = sound-on here.moves p here.point starts here.inside here.runs in
    finish-where (g.E.Stepping.stands_for (g.D.Disks.view c.loop-base.disks)) c.args.line.now p c.args.story.now c.loop-base.story c.loop-base.engine here
    (sym (c.next_turn.ensures here.point sound here.stands.state) ∙ none-of c.next_turn.result c.in_default.not-Some)

pub returns-clause-counts : goal.returns-clause-counts
returns-clause-counts g c =
    let view = g.D.Disks.view in
    count-all _ (view c.args.disks.now) (view c.loop-base.disks) c.args.first c.args.story.now c.loop-base.story c.loop-base.invariant.1

pub returns-clause-refused : goal.returns-clause-refused
returns-clause-refused g c = c.loop-base.invariant.3

pub returns-in_err-settle-clause-refused : goal.returns-in_err-settle-clause-refused
returns-in_err-settle-clause-refused g c = λ r p sound at none is told. c.in_err-settle.ensures.refused r is told

pub returns-in_err-next-clause-refused : goal.returns-in_err-next-clause-refused
returns-in_err-next-clause-refused g c = λ r p starts at none is told.
    let here = c.loop-base.invariant.0 p starts at in
    let sound = sound-on here.moves p here.point starts here.inside here.runs in
    absurd (turned-to-none r here.moves p here.point c.next_turn.result c.in-Some.base here.inside here.runs none (at.comes ∙ is) here.stands.comes (c.next_turn.ensures here.point sound here.stands.state) c.in-Some.is)

pub returns-in_err-settle-2-clause-refused : goal.returns-in_err-settle-2-clause-refused
returns-in_err-settle-2-clause-refused g c = λ r p starts at none is told.
    let here = c.loop-base.invariant.0 p starts at in
    let sound = sound-on here.moves p here.point starts here.inside here.runs in
    absurd (turned-to-none r here.moves p here.point c.next_turn.result c.in-Some.base here.inside here.runs none (at.comes ∙ is) here.stands.comes (c.next_turn.ensures here.point sound here.stands.state) c.in-Some.is)

pub returns-in_err-settle-clause-err : goal.returns-in_err-settle-clause-err
returns-in_err-settle-clause-err g c =
    let p = err_from_is_err_and c.from_residual.result c.from_residual.ensures.1 in
    rw (p.1, p.2) c.in_err-settle.ensures.err

pub returns-in_err-settle-clause-counts : goal.returns-in_err-settle-clause-counts
returns-in_err-settle-clause-counts g c =
    let p = err_from_is_err_and c.from_residual.result c.from_residual.ensures.1 in
    rw (p.1, p.2) c.in_err-settle.ensures.counts

pub returns-in_err-next-clause-err : goal.returns-in_err-next-clause-err
returns-in_err-next-clause-err g c =
    let p = err_from_is_err_and c.from_residual-in_err-next.result c.from_residual-in_err-next.ensures.1 in
    rw (p.1, p.2) (λ p starts at.
    let here = c.loop-base.invariant.0 p starts at in
    let sound = sound-on here.moves p here.point starts here.inside here.runs in
    let stands = subst (λ d. IsAt (g.E.Stepping.stands_for (g.D.Disks.view d) c.loop-base.engine) c.args.line.now None here.point) (sym c.in_ok-turns.ensures.same) here.stands in
    stop-turning (g.E.Stepping.stands_for (g.D.Disks.view c.loop-base.disks)) c.args.line.now _ _ _ c.in-Some.base p c.args.story.now c.loop-base.story c.loop-base.engine here
    (c.in_err-next.ensures.halts here.point sound stands (sym (c.next_turn.ensures here.point sound here.stands.state) ∙ c.in-Some.is)))

pub returns-in_err-next-clause-counts : goal.returns-in_err-next-clause-counts
returns-in_err-next-clause-counts g c =
    let view = g.D.Disks.view in
    let p = err_from_is_err_and c.from_residual-in_err-next.result c.from_residual-in_err-next.ensures.1 in
    rw (p.1, p.2) (count-short _ (view c.args.disks.now) (view c.count_turn.new.disks) (view c.turn.new.disks) _ c.args.first c.args.story.now c.loop-base.story
    (subst (λ d. CountsSoFar c.args.line.now (view c.args.disks.now) (view d) c.args.first c.args.story.now c.loop-base.story None) (sym c.in_ok-turns.ensures.same) c.loop-base.invariant.1) c.in_err-next.ensures.counts)

pub returns-in_err-settle-2-clause-err : goal.returns-in_err-settle-2-clause-err
returns-in_err-settle-2-clause-err g c =
    let p = err_from_is_err_and c.from_residual-in_err-settle-2.result c.from_residual-in_err-settle-2.ensures.1 in
    rw (p.1, p.2) (λ p starts at.
    let here = c.loop-base.invariant.0 p starts at in
    let sound = sound-on here.moves p here.point starts here.inside here.runs in
    let stands = subst (λ d. IsAt (g.E.Stepping.stands_for (g.D.Disks.view d) c.loop-base.engine) c.args.line.now None here.point) (sym c.in_ok-turns.ensures.same) here.stands in
    let r = c.in_ok-next.ensures.moves here.point sound stands (sym (c.next_turn.ensures here.point sound here.stands.state) ∙ c.in-Some.is) in
    stop-turned (g.E.Stepping.stands_for (g.D.Disks.view c.loop-base.disks)) c.args.line.now _ _ _ c.in-Some.base p r.0 c.args.story.now c.loop-base.story c.settle-in-Some.new.story c.loop-base.engine here r.1
    (c.in_err-settle-2.ensures.err r.0 (sound-moved (Turn c.in-Some.base) here.point r.0 tt sound r.1) r.2))

pub returns-in_err-settle-2-clause-counts : goal.returns-in_err-settle-2-clause-counts
returns-in_err-settle-2-clause-counts g c =
    let view = g.D.Disks.view in
    let p = err_from_is_err_and c.from_residual-in_err-settle-2.result c.from_residual-in_err-settle-2.ensures.1 in
    rw (p.1, p.2) (count-join _ (view c.args.disks.now) (view c.turn.new.disks) (view c.settle-in-Some.new.disks) _ c.args.first c.in_ok-next.next c.args.story.now c.loop-base.story c.settle-in-Some.new.story
    (count-turn _ (view c.args.disks.now) (view c.count_turn.new.disks) (view c.turn.new.disks) c.args.first c.args.story.now c.loop-base.story c.in_ok-next.next
    (subst (λ d. CountsSoFar c.args.line.now (view c.args.disks.now) (view d) c.args.first c.args.story.now c.loop-base.story None) (sym c.in_ok-turns.ensures.same) c.loop-base.invariant.1) c.in_ok-next.ensures.counts)
    c.in_err-settle-2.ensures.counts)

pub returns-clause-within : goal.returns-clause-within
returns-clause-within g c = c.loop-base.invariant.2

pub returns-in_err-next-clause-within : goal.returns-in_err-next-clause-within
returns-in_err-next-clause-within g c = stays-behind (stays-behind c.loop-base.invariant.2 c.count_turn.ensures.within) c.in_err-next.ensures.within

pub returns-in_err-settle-2-clause-within : goal.returns-in_err-settle-2-clause-within
returns-in_err-settle-2-clause-within g c = stays-behind (stays-behind (stays-behind c.loop-base.invariant.2 c.count_turn.ensures.within) c.in_ok-next.ensures.within) c.in_err-settle-2.ensures.within

-- over disks that do not tell a turn more is not counted

pub returns-in_err-turns-clause-err : goal.returns-in_err-turns-clause-err
returns-in_err-turns-clause-err g c =
    let p = err_from_is_err_and c.from_residual-in_err-turns.result c.from_residual-in_err-turns.ensures.1 in
    rw (p.1, p.2) (λ p starts at. absurd (not-both c.in_err-turns.ensures.untold (c.stands.ensures.of_told None _ (c.loop-base.invariant.0 p starts at).stands.state)))

pub returns-in_err-turns-clause-refused : goal.returns-in_err-turns-clause-refused
returns-in_err-turns-clause-refused g c = λ r p starts at none is told. absurd (not-both c.in_err-turns.ensures.untold (told-now c.loop-base.invariant.2.shape told))

pub returns-in_err-turns-clause-counts : goal.returns-in_err-turns-clause-counts
returns-in_err-turns-clause-counts g c =
    let view = g.D.Disks.view in
    let p = err_from_is_err_and c.from_residual-in_err-turns.result c.from_residual-in_err-turns.ensures.1 in
    rw (p.1, p.2) (count-short _ (view c.args.disks.now) (view c.loop-base.disks) (view c.count_turn.new.disks) _ c.args.first c.args.story.now c.loop-base.story c.loop-base.invariant.1
    (counts-cause _ _ _ [] refl c.in_err-turns.ensures.cause))

pub returns-in_err-turns-clause-within : goal.returns-in_err-turns-clause-within
returns-in_err-turns-clause-within g c = stays-behind c.loop-base.invariant.2 c.in_err-turns.ensures.within

pub returns-in_err-turns-clause-able : goal.returns-in_err-turns-clause-able
returns-in_err-turns-clause-able g c = c.count_turn.ensures.able

pub returns-clause-able : goal.returns-clause-able
returns-clause-able g c = c.loop-base.invariant.4
