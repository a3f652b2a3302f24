use Rattle.std.proofs.Common.{ap, sym, ◌∙◌}
use Rattle.salt_model.specs.Eval.{known, named_values, value_named}
use Rattle.salt_exprs.proofs.in_row.column_in_row.Goals as goal

pub returns-in-Some : goal.returns-in-Some
returns-in-Some c =
    c.in_column.ensures
    ∙ ap known (sym (c.in-Some.ensures c.args.row.now) ∙ ap (λ n. value_named n (named_values c.args.columns.now c.args.row.now)) c.as_slice.ensures)

pub returns-in-None : goal.returns-in-None
returns-in-None c =
    c.mistyped.ensures
    ∙ ap known (sym (c.in-None.ensures c.args.row.now) ∙ ap (λ n. value_named n (named_values c.args.columns.now c.args.row.now)) c.as_slice.ensures)
