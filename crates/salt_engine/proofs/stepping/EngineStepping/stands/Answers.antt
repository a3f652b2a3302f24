use Rattle.salt_engine.proofs.Stages.{held-at}
use Rattle.salt_engine.proofs.Flying.{flies-none}
use Rattle.salt_engine.proofs.Lying.{idle-lies}
use Rattle.salt_engine.proofs.stepping.EngineStepping.stands.Goals as goal
use Rattle.salt_engine.specs.Flights.{flight_of}
use Rattle.std.proofs.Common.{ap}

pub returns-clause-idle : goal.returns-clause-idle
returns-clause-idle g c = λ p sound at. (idle-lies _ _ _ _ _ _ _ p sound at.state.0 at.idle c.stands.ensures.stays c.stands.ensures.sound, record { over = at.state.1.over; begun = tt })

pub returns-clause-flown : goal.returns-clause-flown
returns-clause-flown g c = λ p sound at. ap flight_of (flies-none c.args.self.now.in_flight p.state.units at.state.0.flies)

pub returns-clause-reopens : goal.returns-clause-reopens
returns-clause-reopens g c = λ room p lies. (lies.0.left, tt)

pub returns-clause-told : goal.returns-clause-told
returns-clause-told g c = λ numbers room p left. (left.0, tt)

pub returns-clause-of_told : goal.returns-clause-of_told
returns-clause-of_told g c = λ next s h. let k = held-at _ _ _ next s h.0.seen in c.stands.ensures.told k.0 k.1
