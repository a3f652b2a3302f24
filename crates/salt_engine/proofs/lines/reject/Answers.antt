use Rattle.salt_engine.proofs.lines.reject.Goals as goal

pub returns-clause-rejects : goal.returns-clause-rejects
returns-clause-rejects c = λ s r stands serves. c.refuse.ensures.does _ r (c.in_ok-ask.ensures s stands) serves

pub returns-clause-event : goal.returns-clause-event
returns-clause-event c = c.refuse.ensures.event
