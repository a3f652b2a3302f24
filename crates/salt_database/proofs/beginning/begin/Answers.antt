use Rattle.salt_database.proofs.Booting.{begins, rests-or-flies}
use Rattle.salt_database.proofs.Fitting.{first-some, rests-fits}
use Rattle.salt_database.proofs.beginning.begin.Goals as goal
use Rattle.salt_database.specs.Finding.{CanFly, first_in}
use Rattle.salt_drain.specs.Recovering.{AnswersWith, books_of}
use Rattle.salt_driver.proofs.Untold.{not-both}
use Rattle.salt_engine.proofs.Untold.{either-way}
use Rattle.salt_model.specs.declared.events.Event.{Event}
use Rattle.std.proofs.Common.{subst, sym}
use Rattle.std.specs.Prelude.{IsSome, Option}

pub first-requires : goal.first-requires
first-requires g c =
    either-way (CanFly (books_of c.new-recovery.result) c.args.in_flight.now) (g.D.Disks.view c.args.disks.now).told (λ told.
    let r = c.requires told in
    rests-fits c.new-recovery.result c.args.in_flight.now r.0 r.3
    (rests-or-flies c.args.books c.begin_boot.new.self c.args.single c.args.in_flight.now r.0 c.args.boot r.1 r.2 r.3 c.new-recovery.result r.4 c.new-recovery.ensures c.begin_boot.ensures))
    (λ untold. subst (λ x. CanFly x c.args.in_flight.now) c.books.ensures (c.is_astray.ensures.fits c.if-is_astray.false untold))

pub returns-clause-begins : goal.returns-clause-begins
returns-clause-begins g c = λ e is f number old new o later.
    begins c.args.books c.args.single c.args.in_flight.now f c.args.boot number old new c.args.later c.first.new.recovery e o later
    (subst (λ (n : Option Event). AnswersWith new (first_in c.args.later f new.units) c.first.new.recovery n) is
    (c.in_ok-first.ensures new f
    (rests-or-flies c.args.books c.begin_boot.new.self c.args.single c.args.in_flight.now f c.args.boot number old new c.new-recovery.result o c.new-recovery.ensures c.begin_boot.ensures)))

pub returns-clause-comes : goal.returns-clause-comes
returns-clause-comes g c = λ told.
    let r = c.requires told in
    let rests = rests-or-flies c.args.books c.begin_boot.new.self c.args.single c.args.in_flight.now r.0 c.args.boot r.1 r.2 r.3 c.new-recovery.result r.4 c.new-recovery.ensures c.begin_boot.ensures in
    subst (λ (n : Option Event). IsSome n) (sym (c.in_ok-first.ensures r.3 r.0 rests).told) (first-some c.args.later r.0 r.3.units rests.rests.comes)

pub returns-then-is_astray-clause-begins : goal.returns-then-is_astray-clause-begins
returns-then-is_astray-clause-begins g c = λ e is. cc

pub returns-then-is_astray-clause-comes : goal.returns-then-is_astray-clause-comes
returns-then-is_astray-clause-comes g c = λ told. absurd (not-both (c.is_astray.ensures.untold c.if-is_astray.true) told)
