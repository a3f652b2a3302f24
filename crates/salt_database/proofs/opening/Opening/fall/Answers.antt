use Rattle.salt_database.proofs.Lying.{fallen-lies}
use Rattle.salt_database.proofs.opening.Opening.fall.Goals as goal
use Rattle.salt_database.specs.Standing.{opening_books}
use Rattle.salt_engine.specs.Standing.{KnowsUnits}
use Rattle.salt_engine.specs.declared.stage.Stage.{Stage}
use Rattle.salt_drain.specs.declared.recovery.Recovery.{Recovery}
use Rattle.std.proofs.Common.{refl, subst, sym}

pub restart-requires : goal.restart-requires
restart-requires g c = c.requires

pub returns-clause-reopens : goal.returns-clause-reopens
returns-clause-reopens g c = λ room p q lies fell.
    fallen-lies _ _ _ _ _ _ _ _ _ _ _ room p q lies fell c.restart.ensures.within.shape.can_stop c.stands.ensures.stays c.restart.ensures.leaves
    (λ s why k. c.fallen.ensures.books s why (subst (λ (stage : Stage Recovery). KnowsUnits (opening_books stage) s) (sym c.replace.ensures.value) k))

pub returns-clause-settled : goal.returns-clause-settled
returns-clause-settled g c = (c.restart.ensures.settled, c.fallen.ensures.down)

pub returns-clause-within : goal.returns-clause-within
returns-clause-within g c = c.restart.ensures.within

pub returns-clause-faults : goal.returns-clause-faults
returns-clause-faults g c = c.restart.ensures.faults

pub returns-clause-stops : goal.returns-clause-stops
returns-clause-stops g c = c.restart.ensures.stops

pub returns-clause-flies : goal.returns-clause-flies
returns-clause-flies g c = refl

pub returns-clause-unfound : goal.returns-clause-unfound
returns-clause-unfound g c = refl

pub returns-clause-able : goal.returns-clause-able
returns-clause-able g c = c.stands-2.ensures.able c.restart.ensures.settled
