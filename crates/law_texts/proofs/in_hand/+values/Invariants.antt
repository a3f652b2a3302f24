use Rattle.std.proofs.Common.{length}
use Rattle.law_texts.proofs.in_hand.+values.Given as goal

abbrev pub decreases-values : goal.decreases-values
decreases-values l = length l.list.now
