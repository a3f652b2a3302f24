use Rattle.law_texts.proofs.Twinned.{same_name_twins}
use Rattle.law_texts.proofs.premises.doubled_names_have_twins.Goals as goal

pub returns : goal.returns
returns c = same_name_twins
