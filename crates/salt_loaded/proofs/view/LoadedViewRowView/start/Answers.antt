use Rattle.salt_loaded.proofs.Viewed.{AreOfTable, shown_between, shown_elsewhere}
use Rattle.salt_loaded.proofs.view.LoadedViewRowView.start.Goals as goal
use Rattle.std.proofs.Common.{subst, sym}

pub returns-then-table-clause-rows : goal.returns-then-table-clause-rows
returns-then-table-clause-rows c = shown_elsewhere c.args.table c.table.result c.args.range.now c.args.self.now.rows.now c.table.ensures c.if-table.true

pub returns-clause-rows : goal.returns-clause-rows
returns-clause-rows c =
    let es = c.args.self.now.rows.now in
    shown_between c.args.table c.args.range.now es c.count_before-self.result c.count_to-self.result (subst (AreOfTable es.list) (sym c.if-table.false) c.table.ensures) c.count_before-self.ensures.counted c.count_to-self.ensures.counted
