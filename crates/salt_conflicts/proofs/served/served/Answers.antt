use Rattle.salt_conflicts.proofs.Holding.{held-more, some-none}
use Rattle.salt_conflicts.proofs.Steps.{served-at}
use Rattle.salt_conflicts.proofs.served.served.Goals as goal
use Rattle.salt_conflicts.specs.Holders.{AreHeldUp}
use Rattle.salt_locks.specs.Tables.{locks_in}
use Rattle.std.proofs.Common.{ap, arith, false, not, option_copied, subst, sym, true, ◌∙◌}
use Rattle.std.proofs.lemmas.List.{take_all}
use Rattle.std.specs.Prelude.{is_some}

pub loop-waiter-preserved : goal.loop-waiter-preserved
loop-waiter-preserved c =
    let inv = c.loop-waiter.invariant in
    let ls = locks_in c.args.locks.now in
    let lock = c.in-Some.lock.now in
    let is = ap option_copied c.in-Some.is in (
      inv.0
          ∙ served-at ls c.args.waits.now c.loop-waiter.waiter-index c.waiter-item.result false c.loop-waiter-test.true c.waiter-item.is
          (c.clash_of.ensures.free ∙ ap (λ o. not (is_some o)) c.in-Some.is),
      λ k here. c.clash_of.ensures.held k (is ∙ here),
      held-more c.loop-waiter.holders.items c.note.new.owners.items ls c.args.waits.now c.loop-waiter.waiter-index c.waiter-item.result
          c.loop-waiter-test.true c.waiter-item.is c.in_ok-note-in-Some.ensures.others
          (lock, c.clash_of.ensures.held lock is, c.in_ok-note-in-Some.ensures.noted, c.clash_of.ensures.clashes lock is) inv.2,
    )

pub returns-in-None-clause-told : goal.returns-in-None-clause-told
returns-in-None-clause-told c =
    sym (c.loop-waiter.invariant.0
    ∙ served-at (locks_in c.args.locks.now) c.args.waits.now c.loop-waiter.waiter-index c.waiter-item.result true c.loop-waiter-test.true c.waiter-item.is
    (c.clash_of.ensures.free ∙ ap (λ o. not (is_some o)) c.in-None.is))

pub returns-in-None-clause-held : goal.returns-in-None-clause-held
returns-in-None-clause-held c = λ e. absurd (some-none c.waiter-item.result.unit e)

pub returns-clause-held : goal.returns-clause-held
returns-clause-held c = λ e.
    subst (λ ws. AreHeldUp c.loop-waiter.holders.items (locks_in c.args.locks.now) ws)
    (take_all c.loop-waiter.waiter-index c.args.waits.now (omega (arith, c.loop-waiter-test.false))) c.loop-waiter.invariant.2
