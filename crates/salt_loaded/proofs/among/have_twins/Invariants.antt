use Rattle.salt_loaded.proofs.Ordered.{AreNoTwins}
use Rattle.salt_loaded.proofs.among.have_twins.Given as goal

abbrev pub invariant-loop-i : goal.invariant-loop-i
invariant-loop-i l = AreNoTwins l.bytes l.spots l.i
