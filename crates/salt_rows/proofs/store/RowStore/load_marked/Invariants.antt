use Rattle.salt_rows.proofs.Loads.{IsLoading}
use Rattle.salt_rows.proofs.store.RowStore.load_marked.Given as goal

abbrev pub invariant-loop-page : goal.invariant-loop-page
invariant-loop-page g l = IsLoading (g.D.Disks.view l.fn.disks) (g.D.Disks.view l.disks) l.fn.self l.self l.range l.marks l.fn.out l.out l.page
