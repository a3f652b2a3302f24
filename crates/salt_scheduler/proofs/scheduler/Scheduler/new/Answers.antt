use Rattle.salt_scheduler.proofs.Starting.{opens}
use Rattle.salt_scheduler.proofs.scheduler.Scheduler.new.Goals as goal
use Rattle.std.proofs.Common.{refl}

pub returns : goal.returns
returns c = λ s books none watch turns. opens _ c.new.result.items s refl c.new.ensures.items books none watch turns c.new-2.ensures
