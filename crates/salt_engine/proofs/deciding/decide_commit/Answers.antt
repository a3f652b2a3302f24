use Rattle.salt_engine.proofs.Counted.{cause-broken, cause-lost, same-cause}
use Rattle.salt_engine.proofs.Netted.{commit-sent}
use Rattle.salt_engine.proofs.Outcome.{by-err, not-ok}
use Rattle.salt_engine.proofs.Committing.{commit-done, commit-may, commit-moves, commit-new, commit-undone}
use Rattle.salt_engine.proofs.Decided.{undone-before}
use Rattle.salt_engine.proofs.deciding.decide_commit.Goals as goal
use Rattle.law_states.specs.Told.{next_decision_number}
use Rattle.salt_model.specs.Kept.{conts_committed}
use Rattle.salt_storage.proofs.Staying.{stays-same}
use Rattle.std.proofs.Common.{ap, ◌∙◌}
use Rattle.std.specs.Prelude.{Err}

pub move_of_commit-requires : goal.move_of_commit-requires
move_of_commit-requires g c = c.requires.there

pub commit-requires-clause-may : goal.commit-requires-clause-may
commit-requires-clause-may g c = λ told.
    let ready = c.requires.ready told in
    let view = g.D.Disks.view c.args.disks.now in
    let holds = g.S.Storage.holds view c.args.storage.now in
    let is_new = g.S.Storage.is_new view c.args.storage.now in
    let x = c.args.books.now in
    let s = ready.0 in
    let o = ready.1 in
    let b = ready.2 in
    let named = ready.3 in
    let moves = commit-moves holds is_new x s o c.args.unit c.stands.ensures.sound named b c.in_ok-made.made c.in_ok-made.ensures in (
      s.kept,
      b.stored.holding,
      (
        conts_committed s.kept (next_decision_number s) o.kind o.vars,
        commit-may holds is_new x s o c.args.unit c.stands.ensures.sound named b c.decided_ends_may_be_kept.ensures.commit c.as_slice.result.now c.in_ok-made.made
            (c.as_slice.ensures.value ∙ c.in_ok-changes.ensures s o b.books named) moves,
      ),
    )

pub commit-requires-clause-new : goal.commit-requires-clause-new
commit-requires-clause-new g c = λ told.
    let ready = c.requires.ready told in
    let view = g.D.Disks.view c.args.disks.now in
    let holds = g.S.Storage.holds view c.args.storage.now in
    let is_new = g.S.Storage.is_new view c.args.storage.now in
    let x = c.args.books.now in
    let s = ready.0 in
    let o = ready.1 in
    let b = ready.2 in
    let named = ready.3 in
    let moves = commit-moves holds is_new x s o c.args.unit c.stands.ensures.sound named b c.in_ok-made.made c.in_ok-made.ensures in
    commit-new holds is_new x s o c.args.unit c.stands.ensures.sound named b c.decided_ends_may_be_kept.ensures.commit c.as_slice.result.now c.in_ok-made.made
    (c.as_slice.ensures.value ∙ c.in_ok-changes.ensures s o b.books named) moves

pub returns-in_err-made-clause-undone : goal.returns-in_err-made-clause-undone
returns-in_err-made-clause-undone g c =
    by-err _ c.from_residual.result _ c.from_residual.ensures.1 (λ s o b named. undone-before _ _ s _ (c.stands.ensures.stays s.kept b.stored.holding))

pub returns-clause-committed : goal.returns-clause-committed
returns-clause-committed g c = λ s o b named.
    let view = g.D.Disks.view c.args.disks.now in
    let holds = g.S.Storage.holds view c.args.storage.now in
    let is_new = g.S.Storage.is_new view c.args.storage.now in
    let x = c.args.books.now in
    let moves = commit-moves holds is_new x s o c.args.unit c.stands.ensures.sound named b c.in_ok-made.made c.in_ok-made.ensures in
    let are = c.as_slice.ensures.value ∙ c.in_ok-changes.ensures s o b.books named in
    let may = commit-may holds is_new x s o c.args.unit c.stands.ensures.sound named b c.decided_ends_may_be_kept.ensures.commit c.as_slice.result.now c.in_ok-made.made are moves in
    commit-done holds is_new x s o c.args.unit c.stands.ensures.sound named b c.decided_ends_may_be_kept.ensures.commit c.as_slice.result.now c.in_ok-made.made are moves _ _
    (c.in_ok-number.ensures.holds s.kept (conts_committed s.kept (next_decision_number s) o.kind o.vars) b.stored.holding may) c.in_ok-number.ensures.is_new
    c.in_ok-number.number (c.in_ok-number.ensures.number s.kept b.stored.holding)

pub returns-in_err-changes-clause-undone : goal.returns-in_err-changes-clause-undone
returns-in_err-changes-clause-undone g c =
    by-err _ c.from_residual-in_err-changes.result _ c.from_residual-in_err-changes.ensures.1 (λ s o b named. undone-before _ _ s _ (c.stands.ensures.stays s.kept b.stored.holding))

pub returns-in_err-number-clause-undone : goal.returns-in_err-number-clause-undone
returns-in_err-number-clause-undone g c =
    by-err _ c.from_residual-in_err-number.result _ c.from_residual-in_err-number.ensures.1 (λ s o b named.
    let view = g.D.Disks.view c.args.disks.now in
    let holds = g.S.Storage.holds view c.args.storage.now in
    let is_new = g.S.Storage.is_new view c.args.storage.now in
    let x = c.args.books.now in
    let law = c.decided_ends_may_be_kept.ensures.commit in
    let sound = c.stands.ensures.sound in
    let moves = commit-moves holds is_new x s o c.args.unit sound named b c.in_ok-made.made c.in_ok-made.ensures in
    let are = c.as_slice.ensures.value ∙ c.in_ok-changes.ensures s o b.books named in
    let may = commit-may holds is_new x s o c.args.unit sound named b law c.as_slice.result.now c.in_ok-made.made are moves in
    commit-undone holds is_new x s o c.args.unit sound named b law c.as_slice.result.now c.in_ok-made.made are moves _ _ _
    (c.in_err-number.ensures.leaves s.kept (conts_committed s.kept (next_decision_number s) o.kind o.vars) b.stored.holding may)
    (λ dev is. c.in_err-number.ensures.full dev (ap Err is)))

pub returns-in_err-made-clause-committed : goal.returns-in_err-made-clause-committed
returns-in_err-made-clause-committed g c = not-ok _ _ c.from_residual.result c.from_residual.ensures.1

pub returns-in_err-made-clause-within : goal.returns-in_err-made-clause-within
returns-in_err-made-clause-within g c = stays-same _ (g.D.Disks.view c.args.disks.now)

pub returns-in_err-made-clause-cause : goal.returns-in_err-made-clause-cause
returns-in_err-made-clause-cause g c = cause-broken _ _ c.from_residual.result _ c.from_residual.ensures.1 (cause-lost _ _ (same-cause (g.D.Disks.view c.args.disks.now)))

pub returns-in_err-changes-clause-committed : goal.returns-in_err-changes-clause-committed
returns-in_err-changes-clause-committed g c = not-ok _ _ c.from_residual-in_err-changes.result c.from_residual-in_err-changes.ensures.1

pub returns-in_err-changes-clause-within : goal.returns-in_err-changes-clause-within
returns-in_err-changes-clause-within g c = stays-same _ (g.D.Disks.view c.args.disks.now)

pub returns-in_err-changes-clause-cause : goal.returns-in_err-changes-clause-cause
returns-in_err-changes-clause-cause g c = cause-broken _ _ c.from_residual-in_err-changes.result _ c.from_residual-in_err-changes.ensures.1 (cause-lost _ _ (same-cause (g.D.Disks.view c.args.disks.now)))

pub returns-in_err-number-clause-committed : goal.returns-in_err-number-clause-committed
returns-in_err-number-clause-committed g c = not-ok _ _ c.from_residual-in_err-number.result c.from_residual-in_err-number.ensures.1

pub returns-in_err-number-clause-within : goal.returns-in_err-number-clause-within
returns-in_err-number-clause-within g c = c.commit.ensures.within

pub returns-in_err-number-clause-cause : goal.returns-in_err-number-clause-cause
returns-in_err-number-clause-cause g c = cause-broken _ _ c.from_residual-in_err-number.result _ c.from_residual-in_err-number.ensures.1 c.in_err-number.ensures.cause

pub returns-clause-within : goal.returns-clause-within
returns-clause-within g c = c.commit.ensures.within

pub returns-clause-cause : goal.returns-clause-cause
returns-clause-cause g c = c.in_ok-number.ensures.cause

pub commit-requires-clause-callable : goal.commit-requires-clause-callable
commit-requires-clause-callable g c = c.requires.callable

pub commit-requires-clause-answers : goal.commit-requires-clause-answers
commit-requires-clause-answers g c = c.requires.answers

pub returns-clause-sent : goal.returns-clause-sent
returns-clause-sent g c = λ s o b named.
    let view = g.D.Disks.view c.args.disks.now in
    commit-sent (g.S.Storage.holds view c.args.storage.now) (g.S.Storage.is_new view c.args.storage.now) c.args.books.now s o c.args.unit named (g.S.Storage.asked c.args.storage.now) _ _ b c.as_slice.result.now
    (c.as_slice.ensures.value ∙ c.in_ok-changes.ensures s o b.books named) (c.in_ok-number.ensures.net s.kept b.stored.holding)

pub returns-in_err-made-clause-sent : goal.returns-in_err-made-clause-sent
returns-in_err-made-clause-sent g c = not-ok _ _ c.from_residual.result c.from_residual.ensures.1

pub returns-in_err-changes-clause-sent : goal.returns-in_err-changes-clause-sent
returns-in_err-changes-clause-sent g c = not-ok _ _ c.from_residual-in_err-changes.result c.from_residual-in_err-changes.ensures.1

pub returns-in_err-number-clause-sent : goal.returns-in_err-number-clause-sent
returns-in_err-number-clause-sent g c = not-ok _ _ c.from_residual-in_err-number.result c.from_residual-in_err-number.ensures.1

pub commit-requires-clause-able : goal.commit-requires-clause-able
commit-requires-clause-able g c = c.requires.able

pub returns-clause-able : goal.returns-clause-able
returns-clause-able g c = c.commit.ensures.able

pub returns-in_err-number-clause-able : goal.returns-in_err-number-clause-able
returns-in_err-number-clause-able g c = c.commit.ensures.able

pub returns-in_err-made-clause-able : goal.returns-in_err-made-clause-able
returns-in_err-made-clause-able g c = c.requires.able

pub returns-in_err-changes-clause-able : goal.returns-in_err-changes-clause-able
returns-in_err-changes-clause-able g c = c.requires.able
