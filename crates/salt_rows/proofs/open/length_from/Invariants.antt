use Rattle.salt_rows.proofs.Device.{IsReaching}
use Rattle.salt_rows.proofs.open.length_from.Given as goal

abbrev pub invariant-loop-side : goal.invariant-loop-side
invariant-loop-side g l = IsReaching (g.D.Disks.view l.fn.disks) (g.D.Disks.view l.disks) l.dev l.sides l.side
