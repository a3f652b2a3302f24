use Rattle.law_types.proofs.Told.{table-key}
use Rattle.law_types.proofs.laws.spelled_tables_have_keys.Goals as goal

pub returns : goal.returns
returns c = λ bytes d spells. table-key _ _ d spells.spelled
