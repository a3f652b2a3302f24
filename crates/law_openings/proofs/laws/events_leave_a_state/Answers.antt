use Rattle.law_openings.proofs.Leaving.{leaves}
use Rattle.law_openings.proofs.laws.events_leave_a_state.Goals as goal

pub returns : goal.returns
returns c = leaves
