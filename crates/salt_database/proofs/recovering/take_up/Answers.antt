use Rattle.salt_database.proofs.OpeningActs.{on-err}
use Rattle.salt_database.proofs.TakenUp.{act-asked, act-part, act-stands, act-step, act-taken, act-unit, branch-stands, branch-unit, can-take, commit-named, commit-stands, commit-taken, commit-unit, never-nothing, steps-as, taken-as, ticks-as, told-steps, told-taken}
use Rattle.salt_database.proofs.recovering.take_up.Goals as goal
use Rattle.salt_drain.specs.Recovering.{books_of}
use Rattle.salt_engine.specs.Giving.{CanTake}
use Rattle.salt_engine.specs.declared.given.Given.TheVariants.{Branched, Committed, Rows, Told}
use Rattle.law_openings.specs.Draining.{statements_at}
use Rattle.std.proofs.Common.{arith, inl, inr, refl, subst, ◌≡◌}
use Rattle.std.proofs.lemmas.Result.{err_from_is_err_and}
use Rattle.std.specs.Prelude.{Some}

pub returns-in-Nothing-clause-gives : goal.returns-in-Nothing-clause-gives
returns-in-Nothing-clause-gives g c = λ s can. absurd (never-nothing c.args.recovery.now c.args.given s c.in-Nothing.is can)

pub returns-in-Nothing-clause-ticks : goal.returns-in-Nothing-clause-ticks
returns-in-Nothing-clause-ticks g c = λ s can. absurd (never-nothing c.args.recovery.now c.args.given s c.in-Nothing.is can)

pub returns-in-Told-clause-gives : goal.returns-in-Told-clause-gives
returns-in-Told-clause-gives g c = λ s.
    let x = c.args.recovery.now in
    let e = c.in-Told.event in
    taken-as x x c.args.given (Told e) (Some e) s c.in-Told.is (told-taken x e s)

pub returns-in-Told-clause-ticks : goal.returns-in-Told-clause-ticks
returns-in-Told-clause-ticks g c = λ s can.
    let x = c.args.recovery.now in
    let e = c.in-Told.event in
    let none : statements_at (Some e) ≡ 0 = told-steps x e s (can-take x c.args.given (Told e) s c.in-Told.is can) in
    omega arith

pub done-requires-clause-there : goal.done-requires-clause-there
done-requires-clause-there g c = (subst (CanTake (books_of c.args.recovery.now)) c.in-Rows.is c.requires).0

pub done-requires-clause-leaves_keys : goal.done-requires-clause-leaves_keys
done-requires-clause-leaves_keys g c = (subst (CanTake (books_of c.args.recovery.now)) c.in-Rows.is c.requires).1

pub done-requires-clause-keyed : goal.done-requires-clause-keyed
done-requires-clause-keyed g c = (subst (CanTake (books_of c.args.recovery.now)) c.in-Rows.is c.requires).2

pub returns-in_ok-event-in-Rows-clause-gives : goal.returns-in_ok-event-in-Rows-clause-gives
returns-in_ok-event-in-Rows-clause-gives g c = λ s.
    let x = c.args.recovery.now in
    let y = c.done.new.self in
    let a = c.in-Rows.asking in
    let rows = c.in-Rows.rows in
    let e = c.in_ok-event-in-Rows.event in
    taken-as x y c.args.given (Rows a rows) (Some e) s c.in-Rows.is
    (λ can. act-taken x a rows s can y (Some e)
    (c.in_ok-event-in-Rows.ensures.gives s (act-unit x a rows s can) (act-stands x a rows s can) can.recovers (act-asked x a rows s can) (act-part x a rows s can) can.fits.loaded))

pub returns-in_ok-event-in-Rows-clause-ticks : goal.returns-in_ok-event-in-Rows-clause-ticks
returns-in_ok-event-in-Rows-clause-ticks g c = λ s given.
    let x = c.args.recovery.now in
    let a = c.in-Rows.asking in
    let rows = c.in-Rows.rows in
    let can = can-take x c.args.given (Rows a rows) s c.in-Rows.is given in
    let did = c.in_ok-event-in-Rows.ensures.gives s (act-unit x a rows s can) (act-stands x a rows s can) can.recovers (act-asked x a rows s can) (act-part x a rows s can) can.fits.loaded in
    ticks-as _ _ 1 c.args.steps.now c.done.new.steps did.told refl c.done.ensures.ticks

pub returns-in_err-event-in-Rows-clause-short : goal.returns-in_err-event-in-Rows-clause-short
returns-in_err-event-in-Rows-clause-short g c =
    let p = err_from_is_err_and c.from_residual.result c.from_residual.ensures.1 in
    rw p.1 (λ s.
    let x = c.args.recovery.now in
    let a = c.in-Rows.asking in
    let rows = c.in-Rows.rows in
    steps-as x c.args.given (Rows a rows) s _ _ c.in-Rows.is (λ can.
    let one = act-step x a rows s can in
    let ticks = c.done.ensures.ticks in
    inr (omega arith)))

pub committed-requires : goal.committed-requires
committed-requires g c = subst (CanTake (books_of c.args.recovery.now)) c.in-Committed.is c.requires

pub returns-in_ok-event-in-Committed-clause-gives : goal.returns-in_ok-event-in-Committed-clause-gives
returns-in_ok-event-in-Committed-clause-gives g c = λ s.
    let x = c.args.recovery.now in
    let y = c.committed.new.self in
    let u = c.in-Committed.unit in
    let m = c.in-Committed.made in
    let n = c.in-Committed.number in
    let e = c.in_ok-event-in-Committed.event in
    taken-as x y c.args.given (Committed u m n) (Some e) s c.in-Committed.is
    (λ can. commit-taken x u m n s can y (Some e)
    (c.in_ok-event-in-Committed.ensures s (commit-unit x u m n s can) can.fits.3 (commit-stands x u m n s can) can.recovers (commit-named x u m n s can) can.fits.2))

pub returns-in_ok-event-in-Committed-clause-ticks : goal.returns-in_ok-event-in-Committed-clause-ticks
returns-in_ok-event-in-Committed-clause-ticks g c = λ s given.
    let x = c.args.recovery.now in
    let u = c.in-Committed.unit in
    let m = c.in-Committed.made in
    let n = c.in-Committed.number in
    let can = can-take x c.args.given (Committed u m n) s c.in-Committed.is given in
    let did = c.in_ok-event-in-Committed.ensures s (commit-unit x u m n s can) can.fits.3 (commit-stands x u m n s can) can.recovers (commit-named x u m n s can) can.fits.2 in
    ticks-as _ _ 0 c.args.steps.now c.args.steps.now did.told refl (omega arith)

pub returns-in_err-event-in-Committed-clause-short : goal.returns-in_err-event-in-Committed-clause-short
returns-in_err-event-in-Committed-clause-short g c = on-err c.from_residual-in_err-event-in-Committed.result (λ s can. inl refl)

pub branched-requires : goal.branched-requires
branched-requires g c = subst (CanTake (books_of c.args.recovery.now)) c.in-Branched.is c.requires

pub returns-in_ok-event-in-Branched-clause-gives : goal.returns-in_ok-event-in-Branched-clause-gives
returns-in_ok-event-in-Branched-clause-gives g c = λ s.
    let x = c.args.recovery.now in
    let y = c.branched.new.self in
    let arm = c.in-Branched in
    let e = c.in_ok-event-in-Branched.event in
    taken-as x y c.args.given (Branched arm.unit arm.base arm.cause arm.made arm.number) (Some e) s arm.is
    (λ can.
    let later = branch-unit x arm.unit arm.base arm.cause arm.made arm.number s can in
    c.in_ok-event-in-Branched.ensures s later.unit later.part can.fits.2 (branch-stands x arm.unit arm.base arm.cause arm.made arm.number s can) can.recovers later.named later.kind can.fits.1)

pub returns-in_ok-event-in-Branched-clause-ticks : goal.returns-in_ok-event-in-Branched-clause-ticks
returns-in_ok-event-in-Branched-clause-ticks g c = λ s given.
    let x = c.args.recovery.now in
    let arm = c.in-Branched in
    let can = can-take x c.args.given (Branched arm.unit arm.base arm.cause arm.made arm.number) s arm.is given in
    let later = branch-unit x arm.unit arm.base arm.cause arm.made arm.number s can in
    let did = c.in_ok-event-in-Branched.ensures s later.unit later.part can.fits.2 (branch-stands x arm.unit arm.base arm.cause arm.made arm.number s can) can.recovers later.named later.kind can.fits.1 in
    ticks-as _ _ 0 c.args.steps.now c.args.steps.now did.told refl (omega arith)

pub returns-in_err-event-in-Branched-clause-short : goal.returns-in_err-event-in-Branched-clause-short
returns-in_err-event-in-Branched-clause-short g c = on-err c.from_residual-in_err-event-in-Branched.result (λ s can. inl refl)
