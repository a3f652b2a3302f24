use Rattle.salt_engine.proofs.TakenUp.{act-asked, act-stands, act-taken, act-unit, branch-stands, branch-unit, commit-named, commit-stands, commit-taken, commit-unit, nothing-taken, taken-as, told-taken}
use Rattle.salt_engine.proofs.serving.take_up.Goals as goal
use Rattle.salt_engine.specs.Giving.{CanTake}
use Rattle.salt_engine.specs.declared.given.Given.TheVariants.{Branched, Committed, Nothing, Rows, Told}
use Rattle.salt_scheduler.specs.Standing.{books_of}
use Rattle.std.proofs.Common.{subst}
use Rattle.std.specs.Prelude.{None, Some}

pub returns-in-Nothing : goal.returns-in-Nothing
returns-in-Nothing c = λ s. let x = c.args.scheduler.now in taken-as x x c.args.given Nothing None s c.in-Nothing.is (nothing-taken x s)

pub returns-in-Told : goal.returns-in-Told
returns-in-Told c = λ s.
    let x = c.args.scheduler.now in
    let e = c.in-Told.event in
    taken-as x x c.args.given (Told e) (Some e) s c.in-Told.is (told-taken x e s)

pub done-requires-clause-there : goal.done-requires-clause-there
done-requires-clause-there c = (subst (CanTake (books_of c.args.scheduler.now)) c.in-Rows.is c.requires).0

pub done-requires-clause-leaves_keys : goal.done-requires-clause-leaves_keys
done-requires-clause-leaves_keys c = (subst (CanTake (books_of c.args.scheduler.now)) c.in-Rows.is c.requires).1

pub done-requires-clause-keyed : goal.done-requires-clause-keyed
done-requires-clause-keyed c = (subst (CanTake (books_of c.args.scheduler.now)) c.in-Rows.is c.requires).2

pub returns-in_ok-event-in-Rows : goal.returns-in_ok-event-in-Rows
returns-in_ok-event-in-Rows c = λ s.
    let x = c.args.scheduler.now in
    let y = c.done.new.self in
    let a = c.in-Rows.asking in
    let rows = c.in-Rows.rows in
    let e = c.in_ok-event-in-Rows.event in
    taken-as x y c.args.given (Rows a rows) (Some e) s c.in-Rows.is
    (λ can. act-taken x a rows s can y (Some e)
    (c.in_ok-event-in-Rows.ensures s (act-unit x a rows s can) (act-stands x a rows s can) can.sound (act-asked x a rows s can) can.fits.loaded))

pub committed-requires : goal.committed-requires
committed-requires c = subst (CanTake (books_of c.args.scheduler.now)) c.in-Committed.is c.requires

pub returns-in_ok-event-in-Committed : goal.returns-in_ok-event-in-Committed
returns-in_ok-event-in-Committed c = λ s.
    let x = c.args.scheduler.now in
    let y = c.committed.new.self in
    let u = c.in-Committed.unit in
    let m = c.in-Committed.made in
    let n = c.in-Committed.number in
    let e = c.in_ok-event-in-Committed.event in
    taken-as x y c.args.given (Committed u m n) (Some e) s c.in-Committed.is
    (λ can. commit-taken x u m n s can y (Some e)
    (c.in_ok-event-in-Committed.ensures s (commit-unit x u m n s can) can.fits.3 (commit-stands x u m n s can) can.sound (commit-named x u m n s can) can.fits.2))

pub branched-requires : goal.branched-requires
branched-requires c = subst (CanTake (books_of c.args.scheduler.now)) c.in-Branched.is c.requires

pub returns-in_ok-event-in-Branched : goal.returns-in_ok-event-in-Branched
returns-in_ok-event-in-Branched c = λ s.
    let x = c.args.scheduler.now in
    let y = c.branched.new.self in
    let arm = c.in-Branched in
    let u = arm.unit in
    let b = arm.base in
    let cause = arm.cause in
    let m = arm.made in
    let n = arm.number in
    let e = c.in_ok-event-in-Branched.event in
    taken-as x y c.args.given (Branched u b cause m n) (Some e) s arm.is
    (λ can.
    let later = branch-unit x u b cause m n s can in
    c.in_ok-event-in-Branched.ensures s later.unit later.part can.fits.2 (branch-stands x u b cause m n s can) can.sound later.named later.kind can.fits.1)
