use Rattle.std.proofs.Common.{length}
use Rattle.law_texts.proofs.in_hand.+rows.Given as goal

abbrev pub decreases-rows : goal.decreases-rows
decreases-rows l = length l.list.now
