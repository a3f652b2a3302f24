use Rattle.law_types.proofs.Told.{asked-keys}
use Rattle.law_types.proofs.laws.read_lines_have_keys.Goals as goal

pub returns : goal.returns
returns c = asked-keys
