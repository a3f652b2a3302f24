use Rattle.std.proofs.Common.{length}
use Rattle.law_texts.proofs.in_hand.+ids.Given as goal

abbrev pub decreases-ids : goal.decreases-ids
decreases-ids l = length l.list.now
