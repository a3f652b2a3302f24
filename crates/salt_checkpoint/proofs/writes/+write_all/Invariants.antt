use Rattle.salt_checkpoint.proofs.writes.+write_all.Given as goal
use Rattle.std.proofs.Common.{length}

abbrev pub decreases-write_all : goal.decreases-write_all
decreases-write_all g l = length l.writes.now
