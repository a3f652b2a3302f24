use Rattle.salt_loaded.proofs.Viewed.{AreOfTable, found_elsewhere, found_nowhere, shown_at}
use Rattle.salt_loaded.proofs.view.LoadedViewRowView.find.Goals as goal
use Rattle.std.proofs.Common.{subst, sym, ◌<◌, ◌≤◌}

pub returns-then-table-clause-row : goal.returns-then-table-clause-row
returns-then-table-clause-row c = found_elsewhere c.args.table c.table.result c.args.key.now c.args.self.now.rows.now.list c.table.ensures c.if-table.true

pub returns-then-self-count-clause-row : goal.returns-then-self-count-clause-row
returns-then-self-count-clause-row c =
    let es = c.args.self.now.rows.now in
    let n = c.count_below-self.result in
    shown_at c.args.table c.args.key.now es n c.has_key.result (subst (AreOfTable es.list) (sym c.if-table.false) c.table.ensures) c.count_below-self.ensures.counted (subst (λ m. n < m) c.count.ensures c.if-self-count.true) c.has_key.ensures

pub returns-else-self-count-clause-row : goal.returns-else-self-count-clause-row
returns-else-self-count-clause-row c =
    let es = c.args.self.now.rows.now in
    let n = c.count_below-self.result in
    found_nowhere c.args.table c.args.key.now es.list n (subst (AreOfTable es.list) (sym c.if-table.false) c.table.ensures) c.count_below-self.ensures.counted (subst (λ m. m ≤ n) c.count.ensures c.if-self-count.false)
