use Rattle.std.proofs.Common.{subst}
use Rattle.salt_drain.specs.Recovering.{books_of}
use Rattle.salt_database.specs.Finding.{CanFly}
use Rattle.salt_database.proofs.Booting.{first-flies, first-rests, first-untold, flies-some}
use Rattle.salt_database.proofs.beginning.first.Goals as goal
use Rattle.salt_drain.proofs.Chosen.{gives-same}
use Rattle.std.proofs.lemmas.Result.{IfOk-weaker}

pub flown-requires : goal.flown-requires
flown-requires c = subst (CanFly (books_of c.args.recovery.now)) c.in-Some.is c.requires

pub returns-in_ok-event-in-Some : goal.returns-in_ok-event-in-Some
returns-in_ok-event-in-Some c = λ s f flies.
    let it = flies-some c.args.recovery.now c.args.in_flight.now c.in-Some.in_flight f s c.in-Some.is flies in
    gives-same s _ _ _ _ (first-flies c.args.later f it.0 s.units c.if-later.true it.1) (c.in_ok-event-in-Some.ensures s it.0 it.2)

pub returns-else-later : goal.returns-else-later
returns-else-later c = IfOk-weaker c.resting.result _ _ (λ e h s f flies.
    gives-same s _ _ _ _ (first-untold c.args.later f s.units c.if-later.false) (h s flies.rests)) c.resting.ensures

pub returns-in-None : goal.returns-in-None
returns-in-None c = IfOk-weaker c.resting-in-None.result _ _ (λ e h s f flies.
    gives-same s _ _ _ _ (first-rests c.args.recovery.now c.args.later c.args.in_flight.now f s c.in-None.is flies) (h s flies.rests)) c.resting-in-None.ensures
