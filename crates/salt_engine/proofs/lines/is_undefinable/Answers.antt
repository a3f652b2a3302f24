use Rattle.salt_engine.proofs.lines.is_undefinable.Goals as goal
use Rattle.std.proofs.Common.{sym, ◌∙◌}

pub is_refused-requires : goal.is_refused-requires
is_refused-requires g c = c.requires

pub returns-then-is_told-clause-fits : goal.returns-then-is_told-clause-fits
returns-then-is_told-clause-fits g c = λ is untold. let no = sym untold ∙ sym c.is_told.ensures ∙ c.if-is_told.true in cc

pub returns-clause-untold : goal.returns-clause-untold
returns-clause-untold g c = λ is. sym c.is_told.ensures ∙ c.if-is_told.false

pub returns-clause-fits : goal.returns-clause-fits
returns-clause-fits g c = λ is untold. c.is_refused.ensures is
