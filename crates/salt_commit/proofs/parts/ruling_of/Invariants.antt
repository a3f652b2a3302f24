use Rattle.salt_commit.proofs.Opened.{RuledSoFar}
use Rattle.salt_commit.proofs.parts.ruling_of.Given as goal

abbrev pub invariant-loop-part : goal.invariant-loop-part
invariant-loop-part l = RuledSoFar l.kept l.decided.items l.part
