use Rattle.salt_engine.proofs.engine.Engine.resume.Goals as goal

pub returns-clause-serves : goal.returns-clause-serves
returns-clause-serves g c = λ f bs s at covers.
    let m = c.in_ok-scheduler.ensures f bs s at covers in
    record { watch = m.watch; watched = m.watched; stands = (c.in_ok-scheduler.scheduler, c.over.ensures.stage, m.stands) }
