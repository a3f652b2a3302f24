use Rattle.salt_database.proofs.beginning.is_astray.Goals as goal
use Rattle.std.proofs.lemmas.Bool.{not-false}
use Rattle.std.proofs.Common.{sym, ◌∙◌}

pub returns-then-is_told-clause-fits : goal.returns-then-is_told-clause-fits
returns-then-is_told-clause-fits g c = λ is untold. let no = sym untold ∙ sym c.is_told.ensures ∙ c.if-is_told.true in cc

pub returns-clause-untold : goal.returns-clause-untold
returns-clause-untold g c = λ is. sym c.is_told.ensures ∙ c.if-is_told.false

pub returns-clause-fits : goal.returns-clause-fits
returns-clause-fits g c = λ is untold. c.can_fly.ensures (not-false _ is)
