use Rattle.salt_scheduler.proofs.Starting.{resumes}
use Rattle.salt_scheduler.proofs.scheduler.Scheduler.resumed.Goals as goal
use Rattle.std.proofs.Common.{refl}

pub returns : goal.returns
returns c = λ s books none turns watched waits names. resumes _ s refl books none turns watched waits names
