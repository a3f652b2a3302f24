use Rattle.salt_engine.proofs.Counted.{cause-broken, cause-lost, same-cause}
use Rattle.salt_engine.proofs.Netted.{branch-sent}
use Rattle.salt_engine.proofs.Outcome.{by-err, not-ok}
use Rattle.salt_engine.proofs.Committing.{branch-done, branch-may, branch-moves, branch-new, branch-undone, own-branch, own-undone}
use Rattle.salt_engine.proofs.Decided.{undone-before}
use Rattle.salt_engine.proofs.deciding.decide_branch.Goals as goal
use Rattle.salt_model.specs.Kept.{conts_branched}
use Rattle.salt_storage.proofs.Staying.{stays-same}
use Rattle.std.proofs.Common.{[], ap, refl}
use Rattle.std.specs.Prelude.{Err}

pub move_of_branch-requires : goal.move_of_branch-requires
move_of_branch-requires g c = c.requires.there

pub commit-requires-clause-may : goal.commit-requires-clause-may
commit-requires-clause-may g c = λ told.
    let ready = c.requires.ready told in
    let view = g.D.Disks.view c.args.disks.now in
    let holds = g.S.Storage.holds view c.args.storage.now in
    let is_new = g.S.Storage.is_new view c.args.storage.now in
    let x = c.args.books.now in
    let s = ready.0 in
    let cause = ready.2 in
    let later = ready.4 in
    let b = own-branch holds is_new x s c.args.unit ready.1 cause ready.3 later in
    let moves = branch-moves holds is_new x s later.unit c.args.unit c.stands.ensures.sound later.named cause b c.in_ok-made.made c.in_ok-made.ensures in (
      s.kept,
      b.stored.holding,
      (
        conts_branched s.kept later.unit.kind,
        branch-may holds is_new x s later.unit c.args.unit c.stands.ensures.sound later.named cause b c.decided_ends_may_be_kept.ensures.branch [] refl c.in_ok-made.made moves,
      ),
    )

pub commit-requires-clause-new : goal.commit-requires-clause-new
commit-requires-clause-new g c = λ told.
    let ready = c.requires.ready told in
    let view = g.D.Disks.view c.args.disks.now in
    let holds = g.S.Storage.holds view c.args.storage.now in
    let is_new = g.S.Storage.is_new view c.args.storage.now in
    let x = c.args.books.now in
    let s = ready.0 in
    let cause = ready.2 in
    let later = ready.4 in
    let b = own-branch holds is_new x s c.args.unit ready.1 cause ready.3 later in
    let moves = branch-moves holds is_new x s later.unit c.args.unit c.stands.ensures.sound later.named cause b c.in_ok-made.made c.in_ok-made.ensures in
    branch-new holds is_new x s later.unit c.args.unit c.stands.ensures.sound later.named cause b c.decided_ends_may_be_kept.ensures.branch [] refl c.in_ok-made.made moves

pub returns-in_err-made-clause-undone : goal.returns-in_err-made-clause-undone
returns-in_err-made-clause-undone g c =
    by-err _ c.from_residual.result _ c.from_residual.ensures.1 (λ s base cause b later. undone-before _ _ s _ (c.stands.ensures.stays s.kept b.stored.holding))

pub returns-clause-branched : goal.returns-clause-branched
returns-clause-branched g c = λ s base cause b0 later.
    let view = g.D.Disks.view c.args.disks.now in
    let holds = g.S.Storage.holds view c.args.storage.now in
    let is_new = g.S.Storage.is_new view c.args.storage.now in
    let x = c.args.books.now in
    let b = own-branch holds is_new x s c.args.unit base cause b0 later in
    let moves = branch-moves holds is_new x s later.unit c.args.unit c.stands.ensures.sound later.named cause b c.in_ok-made.made c.in_ok-made.ensures in
    let may = branch-may holds is_new x s later.unit c.args.unit c.stands.ensures.sound later.named cause b c.decided_ends_may_be_kept.ensures.branch [] refl c.in_ok-made.made moves in
    branch-done holds is_new x s later.unit c.args.unit c.stands.ensures.sound later.named cause b c.decided_ends_may_be_kept.ensures.branch [] refl c.in_ok-made.made moves _ _
    (c.in_ok-number.ensures.holds s.kept (conts_branched s.kept later.unit.kind) b.stored.holding may) c.in_ok-number.ensures.is_new
    c.in_ok-number.number (c.in_ok-number.ensures.number s.kept b0.stored.holding)

pub returns-in_err-number-clause-undone : goal.returns-in_err-number-clause-undone
returns-in_err-number-clause-undone g c =
    by-err _ c.from_residual-in_err-number.result _ c.from_residual-in_err-number.ensures.1 (λ s base cause b0 later.
    let view = g.D.Disks.view c.args.disks.now in
    let holds = g.S.Storage.holds view c.args.storage.now in
    let is_new = g.S.Storage.is_new view c.args.storage.now in
    let x = c.args.books.now in
    let o = later.unit in
    let law = c.decided_ends_may_be_kept.ensures.branch in
    let sound = c.stands.ensures.sound in
    let b = own-branch holds is_new x s c.args.unit base cause b0 later in
    let moves = branch-moves holds is_new x s o c.args.unit sound later.named cause b c.in_ok-made.made c.in_ok-made.ensures in
    let may = branch-may holds is_new x s o c.args.unit sound later.named cause b law [] refl c.in_ok-made.made moves in
    own-undone _ _ _ s c.args.unit base cause later
    (branch-undone holds is_new x s o c.args.unit sound later.named cause b law [] refl c.in_ok-made.made moves _ _ _
    (c.in_err-number.ensures.leaves s.kept (conts_branched s.kept o.kind) b.stored.holding may)
    (λ dev is. c.in_err-number.ensures.full dev (ap Err is))))

pub returns-in_err-made-clause-branched : goal.returns-in_err-made-clause-branched
returns-in_err-made-clause-branched g c = not-ok _ _ c.from_residual.result c.from_residual.ensures.1

pub returns-in_err-made-clause-within : goal.returns-in_err-made-clause-within
returns-in_err-made-clause-within g c = stays-same _ (g.D.Disks.view c.args.disks.now)

pub returns-in_err-made-clause-cause : goal.returns-in_err-made-clause-cause
returns-in_err-made-clause-cause g c = cause-broken _ _ c.from_residual.result _ c.from_residual.ensures.1 (cause-lost _ _ (same-cause (g.D.Disks.view c.args.disks.now)))

pub returns-in_err-number-clause-branched : goal.returns-in_err-number-clause-branched
returns-in_err-number-clause-branched g c = not-ok _ _ c.from_residual-in_err-number.result c.from_residual-in_err-number.ensures.1

pub returns-in_err-number-clause-within : goal.returns-in_err-number-clause-within
returns-in_err-number-clause-within g c = c.commit.ensures.within

pub returns-in_err-number-clause-cause : goal.returns-in_err-number-clause-cause
returns-in_err-number-clause-cause g c = cause-broken _ _ c.from_residual-in_err-number.result _ c.from_residual-in_err-number.ensures.1 c.in_err-number.ensures.cause

pub returns-clause-within : goal.returns-clause-within
returns-clause-within g c = c.commit.ensures.within

pub returns-clause-cause : goal.returns-clause-cause
returns-clause-cause g c = c.in_ok-number.ensures.cause

pub commit-requires-clause-callable : goal.commit-requires-clause-callable
commit-requires-clause-callable g c = c.requires.callable

pub commit-requires-clause-answers : goal.commit-requires-clause-answers
commit-requires-clause-answers g c = c.requires.answers

pub returns-clause-sent : goal.returns-clause-sent
returns-clause-sent g c = λ s base cause b0 later.
    let view = g.D.Disks.view c.args.disks.now in
    let holds = g.S.Storage.holds view c.args.storage.now in
    let is_new = g.S.Storage.is_new view c.args.storage.now in
    branch-sent holds is_new c.args.books.now s later.unit c.args.unit later.named (g.S.Storage.asked c.args.storage.now) _ _ cause (own-branch holds is_new c.args.books.now s c.args.unit base cause b0 later) (c.in_ok-number.ensures.net s.kept b0.stored.holding)

pub returns-in_err-made-clause-sent : goal.returns-in_err-made-clause-sent
returns-in_err-made-clause-sent g c = not-ok _ _ c.from_residual.result c.from_residual.ensures.1

pub returns-in_err-number-clause-sent : goal.returns-in_err-number-clause-sent
returns-in_err-number-clause-sent g c = not-ok _ _ c.from_residual-in_err-number.result c.from_residual-in_err-number.ensures.1

pub commit-requires-clause-able : goal.commit-requires-clause-able
commit-requires-clause-able g c = c.requires.able

pub returns-clause-able : goal.returns-clause-able
returns-clause-able g c = c.commit.ensures.able

pub returns-in_err-number-clause-able : goal.returns-in_err-number-clause-able
returns-in_err-number-clause-able g c = c.commit.ensures.able

pub returns-in_err-made-clause-able : goal.returns-in_err-made-clause-able
returns-in_err-made-clause-able g c = c.requires.able
