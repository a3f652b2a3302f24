use Rattle.salt_eval.proofs.Points.{point-rows}
use Rattle.salt_eval.proofs.scan.scan.Goals as goal
use Rattle.salt_eval.specs.Filtered.{filtered, kept_by}
use Rattle.salt_eval.specs.Scans.{LeavesMeant, gathered}
use Rattle.std.proofs.Common.{ap, subst, sym, ◌∙◌}
use Rattle.std.specs.Option.{option_copied}

pub returns-in-Some-clause-gathered : goal.returns-in-Some-clause-gathered
returns-in-Some-clause-gathered g c =
    let rows = point-rows c.args.table c.args.range.now c.in-Some.key.now (g.V.RowView.tables c.args.view.now) (sym c.point_of.ensures ∙ ap option_copied c.in-Some.is) in
    subst (λ rows. LeavesMeant (gathered (filtered (kept_by c.args.filter.now) g.G.Gather.with_row) c.args.gather.now rows) c.gather_one.new.gather c.gather_one.result) (sym rows) c.gather_one.ensures.gathered
