use Rattle.salt_parts.proofs.Loads.{LoadedSoFar}
use Rattle.salt_parts.proofs.load.load_all.Given as goal

abbrev pub invariant-loop-number : goal.invariant-loop-number
invariant-loop-number g l = LoadedSoFar (g.D.Disks.view l.fn.disks) (g.D.Disks.view l.disks) l.fn.parts.items l.parts.items l.range l.fn.out l.out l.number
