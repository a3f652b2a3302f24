use Rattle.law_texts.proofs.Twinned.{long_name_twins}
use Rattle.law_texts.proofs.premises.other_names_have_twins.Goals as goal

pub returns : goal.returns
returns c = long_name_twins
