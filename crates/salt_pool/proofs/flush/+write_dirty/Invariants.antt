use Rattle.salt_pool.proofs.flush.+write_dirty.Given as goal
use Rattle.std.proofs.Common.{length}

abbrev pub decreases-write_dirty : goal.decreases-write_dirty
decreases-write_dirty g l = length l.dirty.now
