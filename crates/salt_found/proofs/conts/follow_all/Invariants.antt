use Rattle.salt_found.proofs.Following.{FollowedTo}
use Rattle.salt_found.proofs.conts.follow_all.Given as goal

abbrev pub invariant-loop-mv : goal.invariant-loop-mv
invariant-loop-mv l = FollowedTo l.catalogue l.kept l.mv-index l.conts
