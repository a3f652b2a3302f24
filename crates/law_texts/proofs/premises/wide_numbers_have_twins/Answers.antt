use Rattle.law_texts.proofs.Twinned.{wide_twins}
use Rattle.law_texts.proofs.premises.wide_numbers_have_twins.Goals as goal

pub returns : goal.returns
returns c = wide_twins
