use Rattle.salt_locks.proofs.Spotting.{never-true}
use Rattle.salt_locks.proofs.spots.Spots.list.Goals as goal

pub returns-in-Ok : goal.returns-in-Ok
returns-in-Ok c = c.in-Ok.ensures

pub returns-in-Err : goal.returns-in-Err
returns-in-Err c = λ ls spotted whole. absurd (never-true whole)
