use Rattle.salt_eval.proofs.Comings.{coming-row, ended-row, mapped-some}
use Rattle.salt_eval.proofs.map_view.MapViewRowView.step.Goals as goal
use Rattle.salt_eval.specs.MapViews.{coming_in, row_of, rows_coming}
use Rattle.salt_eval.specs.Views.{coming_where}
use Rattle.std.proofs.Common.{ap, sym, ◌∙◌}
use Rattle.std.specs.Option.{option_copied}

pub returns-clause-row : goal.returns-clause-row
returns-clause-row c =
    let row = option_copied c.next-self.result in
    let now = coming_in c.next-self.new.self in
    ap rows_coming c.in-Some.is ∙ coming-row row _ now c.next-self.ensures ∙ ap (λ b. coming_where b (row_of row) now) (mapped-some _ c.next-self.result ∙ sym c.is_some.ensures)

pub returns-clause-ended : goal.returns-clause-ended
returns-clause-ended c = λ none. ended-row (option_copied c.next-self.result) _ (coming_in c.next-self.new.self) c.next-self.ensures (mapped-some _ c.next-self.result ∙ sym c.is_some.ensures ∙ none)
