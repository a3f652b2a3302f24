use Rattle.salt_engine.proofs.serving.is_strange.Goals as goal
use Rattle.salt_engine.specs.Performing.{comes_plain}
use Rattle.std.proofs.lemmas.Bool.{not-false}
use Rattle.std.proofs.Common.{ap, sym, ◌∙◌}
use Rattle.std.specs.Prelude.{refl}

pub returns-then-is_told-clause-fits : goal.returns-then-is_told-clause-fits
returns-then-is_told-clause-fits g c = λ is untold. let no = sym untold ∙ sym c.is_told.ensures ∙ c.if-is_told.true in cc

pub returns-in-Some-clause-untold : goal.returns-in-Some-clause-untold
returns-in-Some-clause-untold g c = λ is. sym c.is_told.ensures ∙ c.if-is_told.false

pub returns-in-Some-clause-fits : goal.returns-in-Some-clause-fits
returns-in-Some-clause-fits g c = λ is untold. ap comes_plain c.in-Some.is ∙ sym c.is_plain.ensures ∙ not-false _ is

pub returns-in-None-clause-fits : goal.returns-in-None-clause-fits
returns-in-None-clause-fits g c = λ is untold. ap comes_plain c.in-None.is ∙ refl
