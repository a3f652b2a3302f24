use Rattle.salt_parts.proofs.Reading.{ReadSoFar}
use Rattle.salt_parts.proofs.read.read_all.Given as goal

abbrev pub invariant-loop-part : goal.invariant-loop-part
invariant-loop-part g l = ReadSoFar (g.D.Disks.view l.fn.disks) (g.D.Disks.view l.disks) l.schema l.shape l.ruling l.all.items l.part
