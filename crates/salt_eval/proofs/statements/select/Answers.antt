use Rattle.salt_eval.proofs.Effecting.{selects}
use Rattle.salt_eval.proofs.Selecting.{then-fails}
use Rattle.salt_eval.proofs.statements.select.Goals as goal
use Rattle.salt_eval.specs.Effects.{table_effect}
use Rattle.salt_eval.specs.Selects.{shown_of}
use Rattle.salt_exprs.specs.Resolving.{ResolvesFilter}
use Rattle.salt_ast.specs.declared.trees.Statement.TheVariants.{Select}
use Rattle.salt_model.specs.Words.{and_then}
use Rattle.std.proofs.Common.{Ok, [], ap, sym, ◌∙◌}
use Rattle.std.proofs.lemmas.Result.{err_from_is_err_and}

pub returns-in_err-answer-clause-done : goal.returns-in_err-answer-clause-done
returns-in_err-answer-clause-done g c = λ name.
    let fits : ResolvesFilter c.in_ok-filter.filter c.args.def.now.columns c.args.vars.now c.args.rows.now.filter = rw (← c.as_slice.ensures) c.in_ok-filter.ensures in
    let p = err_from_is_err_and c.from_residual-in_err-answer.result c.from_residual-in_err-answer.ensures.1 in
    then-fails (table_effect c.args.table c.args.def.now c.args.vars.now (Select c.args.what.now name c.args.rows.now) (g.V.RowView.tables c.args.view.now))
    (shown_of c.args.table c.in_ok-range.range c.args.def.now c.args.vars.now c.args.rows.now.filter c.args.what.now (g.V.RowView.tables c.args.view.now)) (λ a. Ok (a, []))
    c.in_err-answer.field-0.0 p.0 c.from_residual-in_err-answer.result
    (selects c.args.table c.args.def.now c.args.vars.now (g.V.RowView.tables c.args.view.now) name c.args.rows.now c.in_ok-range.range c.in_ok-range.ensures c.args.what.now)
    (c.in_err-answer.ensures.answer c.args.vars.now c.args.rows.now.filter fits) p.1 p.2

pub returns-clause-done : goal.returns-clause-done
returns-clause-done g c = λ name.
    let fits : ResolvesFilter c.in_ok-filter.filter c.args.def.now.columns c.args.vars.now c.args.rows.now.filter = rw (← c.as_slice.ensures) c.in_ok-filter.ensures in
    selects c.args.table c.args.def.now c.args.vars.now (g.V.RowView.tables c.args.view.now) name c.args.rows.now c.in_ok-range.range c.in_ok-range.ensures c.args.what.now
    ∙ ap (λ r. and_then r (λ a. Ok (a, []))) (c.in_ok-answer.ensures.answer c.args.vars.now c.args.rows.now.filter fits)
    ∙ ap (λ l. Ok (c.in_ok-answer.answer, l)) (sym c.new.ensures)
