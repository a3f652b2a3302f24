use Rattle.std.proofs.Common.{length}
use Rattle.law_texts.proofs.in_hand.+owners.Given as goal

abbrev pub decreases-owners : goal.decreases-owners
decreases-owners l = length l.list.now
