use Rattle.salt_conflicts.proofs.Steps.{release-same}
use Rattle.salt_conflicts.proofs.watching.release.Goals as goal
use Rattle.std.proofs.Common.{◌∙◌}

pub returns-in_ok-set : goal.returns-in_ok-set
returns-in_ok-set c = c.drop_programs.ensures ∙ release-same c.in_ok-set.set.keys c.args.bases.now c.in_ok-set.ensures c.args.locks.now
