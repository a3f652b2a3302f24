use Rattle.salt_conflicts.proofs.Others.{others}
use Rattle.salt_conflicts.proofs.laws.other_events_leave_the_watch.Goals as goal

pub returns : goal.returns
returns c = others
