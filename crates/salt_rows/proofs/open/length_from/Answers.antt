use Rattle.salt_disk.proofs.CallAfterCall.{cause_on, keeps_on}
use Rattle.salt_disk.specs.Disks.{HasCause, KeepsAll}
use Rattle.salt_disk.specs.declared.disks.DiskErr.TheVariants.{Failed}
use Rattle.salt_rows.proofs.Device.{length_found, never_reaches, reaching_begins, reaching_on}
use Rattle.salt_rows.proofs.open.length_from.Goals as goal
use Rattle.std.proofs.Common.{None, Some, arith, subst, sym}
use Rattle.std.proofs.lemmas.Result.{err_from_is_err_and}

pub loop-side-init : goal.loop-side-init
loop-side-init g c = reaching_begins (g.D.Disks.view c.args.disks.now) c.args.dev c.args.sides c.requires.end

pub loop-side-preserved : goal.loop-side-preserved
loop-side-preserved g c =
    let l = c.loop-side in
    let d0 = g.D.Disks.view c.args.disks.now in
    let d = g.D.Disks.view l.disks in
    let e = g.D.Disks.view c.read.new.self in
    reaching_on d0 d e c.args.dev c.args.sides l.side l.invariant l.bytes c.read.new.buf c.in_ok-n.n (omega arith) c.in_ok-n.ensures.bytes (omega (arith, c.if-n-lt-PAGE.false)) c.in_ok-n.ensures.length c.in_ok-n.ensures.kept c.in_ok-n.ensures.cause

-- AN ERROR

pub returns-in_err-n-clause-kept : goal.returns-in_err-n-clause-kept
returns-in_err-n-clause-kept g c =
    let l = c.loop-side in
    let d0 = g.D.Disks.view c.args.disks.now in
    let d = g.D.Disks.view l.disks in
    let p = err_from_is_err_and c.from_residual.result c.from_residual.ensures.1 in
    rw (p.1, p.2) (keeps_on (λ _. ⊥) d0 d (g.D.Disks.view c.read.new.self) (Some c.in_err-n.field-0.0) l.invariant.kept c.in_err-n.ensures.kept)

pub returns-in_err-n-clause-cause : goal.returns-in_err-n-clause-cause
returns-in_err-n-clause-cause g c =
    let l = c.loop-side in
    let d0 = g.D.Disks.view c.args.disks.now in
    let d = g.D.Disks.view l.disks in
    let p = err_from_is_err_and c.from_residual.result c.from_residual.ensures.1 in
    rw (p.1, p.2) (cause_on d0 d (g.D.Disks.view c.read.new.self) (Some c.in_err-n.field-0.0) l.invariant.cause c.in_err-n.ensures.cause)

-- THE END

pub returns-then-n-lt-PAGE-clause-length : goal.returns-then-n-lt-PAGE-clause-length
returns-then-n-lt-PAGE-clause-length g c = λ told.
    let l = c.loop-side in
    let d0 = g.D.Disks.view c.args.disks.now in
    let d = g.D.Disks.view l.disks in
    let e = g.D.Disks.view c.read.new.self in
    length_found d0 d e c.args.dev c.args.sides l.side l.invariant l.bytes c.read.new.buf c.in_ok-n.n (omega arith) c.in_ok-n.ensures.bytes (omega (arith, c.if-n-lt-PAGE.true)) told

pub returns-then-n-lt-PAGE-clause-kept : goal.returns-then-n-lt-PAGE-clause-kept
returns-then-n-lt-PAGE-clause-kept g c =
    let l = c.loop-side in
    keeps_on (λ _. ⊥) (g.D.Disks.view c.args.disks.now) (g.D.Disks.view l.disks) (g.D.Disks.view c.read.new.self) None l.invariant.kept c.in_ok-n.ensures.kept

pub returns-then-n-lt-PAGE-clause-cause : goal.returns-then-n-lt-PAGE-clause-cause
returns-then-n-lt-PAGE-clause-cause g c =
    let l = c.loop-side in
    cause_on (g.D.Disks.view c.args.disks.now) (g.D.Disks.view l.disks) (g.D.Disks.view c.read.new.self) None l.invariant.cause c.in_ok-n.ensures.cause

pub rejected-requires : goal.rejected-requires
rejected-requires g c =
    let l = c.loop-side in
    never_reaches (g.D.Disks.view c.args.disks.now) (g.D.Disks.view l.disks) c.args.dev c.args.sides l.side c.requires.within (omega (arith, c.loop-side-test.false)) l.invariant

pub returns-clause-kept : goal.returns-clause-kept
returns-clause-kept g c =
    let l = c.loop-side in
    let d0 = g.D.Disks.view c.args.disks.now in
    let e = g.D.Disks.view c.rejected.new.disks in
    subst (λ x. KeepsAll d0 e (Some x)) (sym c.rejected.ensures.failed) (keeps_on (λ _. ⊥) d0 (g.D.Disks.view l.disks) e (Some Failed) l.invariant.kept c.rejected.ensures.kept)

pub returns-clause-cause : goal.returns-clause-cause
returns-clause-cause g c =
    let l = c.loop-side in
    let d0 = g.D.Disks.view c.args.disks.now in
    let e = g.D.Disks.view c.rejected.new.disks in
    subst (λ x. HasCause d0 e (Some x)) (sym c.rejected.ensures.failed) (cause_on d0 (g.D.Disks.view l.disks) e (Some Failed) l.invariant.cause c.rejected.ensures.cause)
