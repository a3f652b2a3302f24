use Rattle.salt_pool.proofs.pool.+last_clean_of.Given as goal
use Rattle.std.proofs.Common.{length}

abbrev pub decreases-last_clean_of : goal.decreases-last_clean_of
decreases-last_clean_of g l = length l.frames.now
