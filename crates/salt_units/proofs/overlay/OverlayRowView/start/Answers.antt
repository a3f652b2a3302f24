use Rattle.salt_units.proofs.Merged.{started}
use Rattle.salt_units.proofs.Overlaid.{keyed-rows}
use Rattle.salt_units.proofs.overlay.OverlayRowView.start.Goals as goal

pub returns-clause-rows : goal.returns-clause-rows
returns-clause-rows g c =
    let es = g.V.RowView.tables c.args.self.now.view.now in
    started c.args.table c.args.range.now c.args.self.now.changes.now.items es c.count_passed.result c.count_within.result (g.V.RowView.coming c.start.new.self)
    c.args.self.now.in_order c.args.self.now.have_keys (keyed-rows es c.args.self.now.keyed) c.count_passed.ensures.counted c.count_within.ensures.counted c.in_ok-start.ensures.rows
