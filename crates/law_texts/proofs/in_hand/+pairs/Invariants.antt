use Rattle.std.proofs.Common.{length}
use Rattle.law_texts.proofs.in_hand.+pairs.Given as goal

abbrev pub decreases-pairs : goal.decreases-pairs
decreases-pairs l = length l.list.now
