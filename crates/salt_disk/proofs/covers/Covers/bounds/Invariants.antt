use Rattle.salt_disk.proofs.Covered.{AreWithin}
use Rattle.salt_disk.proofs.covers.Covers.bounds.Given as goal

abbrev pub invariant-loop-span : goal.invariant-loop-span
invariant-loop-span l = AreWithin l.self l.span-index l.first l.last
