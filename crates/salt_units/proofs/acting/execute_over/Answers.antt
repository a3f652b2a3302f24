use Rattle.salt_units.proofs.acting.execute_over.Goals as goal
use Rattle.std.proofs.Common.{ap}

pub returns-clause-same_reference : goal.returns-clause-same_reference
returns-clause-same_reference g c = ap (λ s. s.0) c.execute.ensures.source

pub returns-clause-kept : goal.returns-clause-kept
returns-clause-kept g c = ap (λ s. s.1) c.execute.ensures.source

pub returns-clause-source : goal.returns-clause-source
returns-clause-source g c = ap (λ s. s.2) c.execute.ensures.source
