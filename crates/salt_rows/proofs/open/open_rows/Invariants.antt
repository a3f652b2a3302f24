use Rattle.salt_rows.proofs.Opened.{IsListing}
use Rattle.salt_rows.proofs.open.open_rows.Given as goal

abbrev pub invariant-loop-number : goal.invariant-loop-number
invariant-loop-number g l = IsListing (g.J.RowJudge.sound l.judge) (g.D.Disks.view l.fn.disks) (g.D.Disks.view l.disks) l.dev l.nulls l.sides l.number l.directory l.space
