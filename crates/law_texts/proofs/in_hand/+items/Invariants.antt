use Rattle.std.proofs.Common.{length}
use Rattle.law_texts.proofs.in_hand.+items.Given as goal

abbrev pub decreases-items : goal.decreases-items
decreases-items l = length l.list.now
