use Rattle.law_states.proofs.KeptTable.{keeps-shown, table-members}
use Rattle.law_states.proofs.laws.tables_tell_locks.Goals as goal

pub returns : goal.returns
returns c = record { members = table-members; shown = keeps-shown }
