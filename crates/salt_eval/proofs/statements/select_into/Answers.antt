use Rattle.salt_eval.proofs.Effecting.{stores-found, stores-missing}
use Rattle.salt_eval.proofs.Showing.{cell-named}
use Rattle.salt_eval.proofs.statements.select_into.Goals as goal
use Rattle.salt_eval.specs.Views.{shown_where}
use Rattle.salt_exprs.specs.Names.{IsNumberOf}
use Rattle.salt_model.specs.declared.events.Answer.TheVariants.{Stored}
use Rattle.std.proofs.Common.{Ok, [], ap, false, sym, true, ◌∙◌, ◌≡◌}

pub returns-then-not-is_there-clause-done : goal.returns-then-not-is_there-clause-done
returns-then-not-is_there-clause-done g c = λ name var.
    stores-missing c.args.table c.args.def.now c.args.vars.now (g.V.RowView.tables c.args.view.now) c.args.column.now var name c.args.key.now c.in_ok-key.key c.in_ok-key.ensures
    (c.in_ok-is_there.ensures.row ∙ ap (λ b. shown_where b (g.V.Cells.cells c.find.new.self)) (let h : c.in_ok-is_there.is_there ≡ false = cc in h))

pub returns-clause-done : goal.returns-clause-done
returns-clause-done g c = λ name var.
    let row = g.V.Cells.cells c.find.new.self in
    let number : IsNumberOf c.args.def.now.columns c.args.column.now c.column_number-number.result = rw (← c.as_slice.ensures, ← c.as_slice-2.ensures) c.column_number-number.ensures in
    stores-found c.args.table c.args.def.now c.args.vars.now (g.V.RowView.tables c.args.view.now) c.args.column.now var name c.args.key.now c.in_ok-key.key c.in_ok-key.ensures row
    (c.in_ok-is_there.ensures.row ∙ ap (λ b. shown_where b row) (let h : c.in_ok-is_there.is_there ≡ true = cc in h))
    ∙ ap (λ v. Ok (Stored v, [])) (sym (cell-named c.args.def.now c.args.column.now c.column_number-number.result number row) ∙ sym c.in_ok-value.ensures)
    ∙ ap (λ l. Ok (Stored c.in_ok-value.value, l)) (sym c.new.ensures)
