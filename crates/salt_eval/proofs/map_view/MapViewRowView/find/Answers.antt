use Rattle.salt_eval.proofs.Comings.{mapped-some, shown-row}
use Rattle.salt_eval.proofs.InOrder.{row_at-tables_of}
use Rattle.salt_eval.proofs.map_view.MapViewRowView.find.Goals as goal
use Rattle.salt_eval.specs.MapViews.{row_of}
use Rattle.salt_eval.specs.Views.{shown_where}
use Rattle.salt_model.specs.Tables.{place, place_cmp}
use Rattle.std.proofs.Common.{ap, sym, ◌∙◌}
use Rattle.std.specs.BTreeMap.{is_at}
use Rattle.std.specs.Map.{lookup}
use Rattle.std.specs.Option.{option_copied}

pub returns-clause-row : goal.returns-clause-row
returns-clause-row c =
    row_at-tables_of (place c.args.table c.args.key.now) c.args.self.now.rows.now.entries
    ∙ ap (λ k. lookup (is_at (place_cmp (place c.args.table k))) c.args.self.now.rows.now.entries) (sym c.in_ok-key.ensures)
    ∙ sym c.get-self.ensures.value
    ∙ shown-row (option_copied c.get-self.result)
    ∙ ap (λ b. shown_where b (row_of (option_copied c.get-self.result))) (mapped-some _ c.get-self.result ∙ sym c.is_some.ensures)
