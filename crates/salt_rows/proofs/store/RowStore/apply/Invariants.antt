use Rattle.salt_rows.proofs.Applied.{IsApplying}
use Rattle.salt_rows.proofs.store.RowStore.apply.Given as goal
use Rattle.std.proofs.Common.{drop}

abbrev pub invariant-loop-change : goal.invariant-loop-change
invariant-loop-change g l = IsApplying (g.D.Disks.view l.fn.disks) (g.D.Disks.view l.disks) l.fn.self l.self l.changes (drop l.change-index l.changes)
