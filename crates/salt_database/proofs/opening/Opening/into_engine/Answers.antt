use Rattle.salt_database.proofs.opening.Opening.into_engine.Goals as goal

pub returns-clause-serves : goal.returns-clause-serves
returns-clause-serves g c = λ s h. (c.args.scheduler, c.over.ensures.stage, h)
