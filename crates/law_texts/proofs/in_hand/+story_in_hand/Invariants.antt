use Rattle.std.proofs.Common.{length}
use Rattle.law_texts.proofs.in_hand.+story_in_hand.Given as goal

abbrev pub decreases-story_in_hand : goal.decreases-story_in_hand
decreases-story_in_hand l = length l.list.now
