use Rattle.salt_eval.proofs.Effecting.{check-fails, inserts-duplicate, inserts-new}
use Rattle.salt_eval.proofs.statements.insert.Goals as goal
use Rattle.salt_ast.specs.declared.trees.Statement.TheVariants.{Insert}
use Rattle.salt_eval.specs.Effects.{table_effect}
use Rattle.salt_eval.specs.Views.{shown_where}
use Rattle.salt_exprs.specs.Resolving.{visible}
use Rattle.salt_model.specs.Reaches.{in_row}
use Rattle.salt_model.specs.Statements.{change_to, checked}
use Rattle.salt_model.specs.Tables.{place, row_at}
use Rattle.salt_model.specs.Words.{and_then}
use Rattle.salt_model.specs.declared.events.Answer.TheVariants.{Count}
use Rattle.std.proofs.Common.{Ok, Some, [], ap, false, is_some, sym, true, ◌++◌, ◌∙◌, ◌∷◌, ◌≡◌}
use Rattle.std.proofs.lemmas.Result.{err_from_is_err_and}
use Rattle.salt_values.specs.Value.{key_of}

pub returns-then-is_there-clause-done : goal.returns-then-is_there-clause-done
returns-then-is_there-clause-done g c = λ name.
    let key : c.in_ok-key.key ≡ key_of c.in_ok-row.row = c.in_ok-key.ensures ∙ ap key_of c.as_slice.ensures in
    let seen : is_some (row_at (place c.args.table (key_of c.in_ok-row.row)) (g.V.RowView.tables c.args.view.now)) ≡ true = ap (λ k. is_some (row_at (place c.args.table k) (g.V.RowView.tables c.args.view.now))) (sym key) ∙ ap is_some c.in_ok-is_there.ensures.row ∙ ap (λ b. is_some (shown_where b (g.V.Cells.cells c.find.new.self))) c.if-is_there.true in
    inserts-duplicate c.args.table c.args.def.now c.args.vars.now (g.V.RowView.tables c.args.view.now) name c.args.values.now c.in_ok-row.row c.in_ok-row.ensures seen

pub returns-in_err-check-clause-done : goal.returns-in_err-check-clause-done
returns-in_err-check-clause-done g c = λ name.
    let key : c.in_ok-key.key ≡ key_of c.in_ok-row.row = c.in_ok-key.ensures ∙ ap key_of c.as_slice.ensures in
    let seen : is_some (row_at (place c.args.table (key_of c.in_ok-row.row)) (g.V.RowView.tables c.args.view.now)) ≡ false = ap (λ k. is_some (row_at (place c.args.table k) (g.V.RowView.tables c.args.view.now))) (sym key) ∙ ap is_some c.in_ok-is_there.ensures.row ∙ ap (λ b. is_some (shown_where b (g.V.Cells.cells c.find.new.self))) c.if-is_there.false in
    let met : checked (visible c.as_slice-2.result.now c.as_slice-4.result.now []) c.as_slice-3.result.now ≡ checked (in_row c.args.def.now c.in_ok-row.row []) c.args.def.now.checks =
    ap (λ columns. checked (visible columns c.as_slice-4.result.now []) c.as_slice-3.result.now) c.as_slice-2.ensures
    ∙ ap (λ row. checked (visible c.args.def.now.columns row []) c.as_slice-3.result.now) c.as_slice-4.ensures
    ∙ ap (checked (visible c.args.def.now.columns c.in_ok-row.row [])) c.as_slice-3.ensures in
    let p = err_from_is_err_and c.from_residual-in_err-check.result c.from_residual-in_err-check.ensures.1 in
    check-fails (table_effect c.args.table c.args.def.now c.args.vars.now (Insert name c.args.values.now) (g.V.RowView.tables c.args.view.now)) (checked (in_row c.args.def.now c.in_ok-row.row []) c.args.def.now.checks) (λ b. Ok (Count 1, change_to (place c.args.table (key_of c.in_ok-row.row)) (Some c.in_ok-row.row) ∷ [])) c.in_err-check.field-0.0 p.0 c.from_residual-in_err-check.result (inserts-new c.args.table c.args.def.now c.args.vars.now (g.V.RowView.tables c.args.view.now) name c.args.values.now c.in_ok-row.row c.in_ok-row.ensures seen) (checked (visible c.as_slice-2.result.now c.as_slice-4.result.now []) c.as_slice-3.result.now) (sym met) c.in_err-check.ensures p.1 p.2

pub returns-clause-done : goal.returns-clause-done
returns-clause-done g c = λ name.
    let key : c.in_ok-key.key ≡ key_of c.in_ok-row.row = c.in_ok-key.ensures ∙ ap key_of c.as_slice.ensures in
    let seen : is_some (row_at (place c.args.table (key_of c.in_ok-row.row)) (g.V.RowView.tables c.args.view.now)) ≡ false = ap (λ k. is_some (row_at (place c.args.table k) (g.V.RowView.tables c.args.view.now))) (sym key) ∙ ap is_some c.in_ok-is_there.ensures.row ∙ ap (λ b. is_some (shown_where b (g.V.Cells.cells c.find.new.self))) c.if-is_there.false in
    let met : checked (visible c.as_slice-2.result.now c.as_slice-4.result.now []) c.as_slice-3.result.now ≡ checked (in_row c.args.def.now c.in_ok-row.row []) c.args.def.now.checks =
    ap (λ columns. checked (visible columns c.as_slice-4.result.now []) c.as_slice-3.result.now) c.as_slice-2.ensures
    ∙ ap (λ row. checked (visible c.args.def.now.columns row []) c.as_slice-3.result.now) c.as_slice-4.ensures
    ∙ ap (checked (visible c.args.def.now.columns c.in_ok-row.row [])) c.as_slice-3.ensures in
    inserts-new c.args.table c.args.def.now c.args.vars.now (g.V.RowView.tables c.args.view.now) name c.args.values.now c.in_ok-row.row c.in_ok-row.ensures seen
    ∙ ap (λ r. and_then r (λ b. Ok (Count 1, change_to (place c.args.table (key_of c.in_ok-row.row)) (Some c.in_ok-row.row) ∷ []))) (sym met ∙ c.in_ok-check.ensures)
    ∙ ap (λ k. Ok (Count 1, change_to (place c.args.table k) (Some c.in_ok-row.row) ∷ [])) (sym key)
    ∙ ap (λ l. Ok (Count 1, l ++ change_to (place c.args.table c.in_ok-key.key) (Some c.in_ok-row.row) ∷ [])) (sym c.new-changes.ensures)
    ∙ ap (λ l. Ok (Count 1, l)) (sym c.in_ok-push.ensures.ok)
