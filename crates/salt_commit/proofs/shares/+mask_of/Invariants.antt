use Rattle.salt_commit.proofs.shares.+mask_of.Given as goal
use Rattle.std.proofs.Common.{length}

abbrev pub decreases-mask_of : goal.decreases-mask_of
decreases-mask_of l = length l.shares.now
