use Rattle.std.proofs.Common.{inl, inr, ◌+◌, ◌<◌, ◌≤◌, ◌^◌, drop, refl, ◌∙◌, ap, subst, arith}
use Rattle.salt_disk.specs.Disks.{KeepsAll}
use Rattle.salt_disk.proofs.CallAfterCall.{keeps_on, cause_on}
use Rattle.salt_gatelog.specs.Open.{IsStep, IsPast}
use Rattle.salt_gatelog.specs.declared.open.Step.{Step}
use Rattle.salt_gatelog.proofs.Opening.{counts_on, was_told, stands, no_log, blank_short, first_none, opens, nine_each}
use Rattle.salt_gatelog.proofs.open.open_counted.Goals as goal
use Rattle.std.specs.Prelude.{Some, None}

pub returns-then-count-eq0-clause-why : goal.returns-then-count-eq0-clause-why
returns-then-count-eq0-clause-why g c told =
    let l = c.loop-count in
    let d0 = g.D.Disks.view c.args.disks.now in
    let d = g.D.Disks.view l.disks in
    let dev = c.args.dev in
    let e = g.D.Disks.view c.step_at.new.disks in
    let step = subst (λ (s : Step). IsStep (drop l.end (d.bytes dev)) l.end s) c.in-Closed.is (c.in_ok-step_at.ensures.step (was_told d0 d e dev l.end l.count l.invariant.opened told)) in
    stands d0 d e dev l.end l.count l.invariant.opened told l.invariant.opened.small step ∙ ap Some (first_none d0 d dev l.end l.count l.invariant.opened c.if-count-eq0.true)

pub returns-else-count-eq0-clause-log : goal.returns-else-count-eq0-clause-log
returns-else-count-eq0-clause-log g c =
    let l = c.loop-count in
    let d0 = g.D.Disks.view c.args.disks.now in
    let d = g.D.Disks.view l.disks in
    let dev = c.args.dev in
    let e = g.D.Disks.view c.step_at.new.disks in
    let room : l.end + 1 < 2 ^ 64 = subst (λ (s : Step). IsPast l.end s) c.in-Closed.is c.in_ok-step_at.ensures.past in
    let keeps : KeepsAll d0 e None = keeps_on (λ x. ⊥) d0 d e None l.invariant.opened.keeps c.in_ok-step_at.ensures.kept in (
      refl,
      opens d0 d e dev l.end l.count _ refl refl refl refl refl tt l.invariant.opened c.requires.settled c.requires.known room (omega (arith, c.if-count-eq0.false))
          (λ told. subst (λ (s : Step). IsStep (drop l.end (d.bytes dev)) l.end s) c.in-Closed.is (c.in_ok-step_at.ensures.step told)) keeps,
    )

pub returns-then-count-eq0-2-clause-why : goal.returns-then-count-eq0-2-clause-why
returns-then-count-eq0-2-clause-why g c told =
    let l = c.loop-count in
    let d0 = g.D.Disks.view c.args.disks.now in
    let d = g.D.Disks.view l.disks in
    let dev = c.args.dev in
    let e = g.D.Disks.view c.step_at.new.disks in
    let step = subst (λ (s : Step). IsStep (drop l.end (d.bytes dev)) l.end s) c.in-Ends.is (c.in_ok-step_at.ensures.step (was_told d0 d e dev l.end l.count l.invariant.opened told)) in
    blank_short d0 d e dev l.end l.count l.invariant.opened told c.if-count-eq0-2.true step.0

pub returns-else-count-eq0-2-clause-why : goal.returns-else-count-eq0-2-clause-why
returns-else-count-eq0-2-clause-why g c told =
    let l = c.loop-count in
    let d0 = g.D.Disks.view c.args.disks.now in
    let d = g.D.Disks.view l.disks in
    let dev = c.args.dev in
    let e = g.D.Disks.view c.step_at.new.disks in
    let step = subst (λ (s : Step). IsStep (drop l.end (d.bytes dev)) l.end s) c.in-Ends.is (c.in_ok-step_at.ensures.step (was_told d0 d e dev l.end l.count l.invariant.opened told)) in
    no_log d0 d e dev l.end l.count l.invariant.opened told l.invariant.opened.small (inr (omega (arith, c.if-count-eq0-2.false))) step.1

pub returns-in-Cut-clause-why : goal.returns-in-Cut-clause-why
returns-in-Cut-clause-why g c told =
    let l = c.loop-count in
    let d0 = g.D.Disks.view c.args.disks.now in
    let d = g.D.Disks.view l.disks in
    let dev = c.args.dev in
    let e = g.D.Disks.view c.step_at.new.disks in
    let step = subst (λ (s : Step). IsStep (drop l.end (d.bytes dev)) l.end s) c.in-Cut.is (c.in_ok-step_at.ensures.step (was_told d0 d e dev l.end l.count l.invariant.opened told)) in
    no_log d0 d e dev l.end l.count l.invariant.opened told l.invariant.opened.small (inl step.0) step.1

pub loop-count-preserved : goal.loop-count-preserved
loop-count-preserved g c =
    let l = c.loop-count in
    let d0 = g.D.Disks.view c.args.disks.now in
    let d = g.D.Disks.view l.disks in
    let dev = c.args.dev in
    let e = g.D.Disks.view c.step_at.new.disks in
    let past : (l.end + 9 ≤ c.in-Entry.next) × (c.in-Entry.next < 2 ^ 64) = subst (λ (s : Step). IsPast l.end s) c.in-Entry.is c.in_ok-step_at.ensures.past in
    counts_on d0 d e dev l.end c.in-Entry.next l.count c.args.steps.now l.steps c.tick.new.self l.block c.step_at.new.block l.invariant c.in_ok-step_at.ensures.block c.tick.ensures past.1 past.0
    (λ told. subst (λ (s : Step). IsStep (drop l.end (d.bytes dev)) l.end s) c.in-Entry.is (c.in_ok-step_at.ensures.step told))
    (keeps_on (λ x. ⊥) d0 d e None l.invariant.opened.keeps c.in_ok-step_at.ensures.kept) (cause_on d0 d e None l.invariant.opened.cause c.in_ok-step_at.ensures.cause)

pub returns-clause-why : goal.returns-clause-why
returns-clause-why g c told =
    let l = c.loop-count in
    let d0 = g.D.Disks.view c.args.disks.now in
    let d = g.D.Disks.view l.disks in
    let dev = c.args.dev in
    absurd (omega (arith, l.invariant.opened.small, l.invariant.opened.end_is, l.invariant.opened.size, nine_each l.invariant.opened.entries))
