use Rattle.law_texts.proofs.Twinned.{wide_value_twins}
use Rattle.law_texts.proofs.premises.wide_values_have_twins.Goals as goal

pub returns : goal.returns
returns c = wide_value_twins
