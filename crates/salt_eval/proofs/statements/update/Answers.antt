use Rattle.salt_eval.proofs.Effecting.{updates}
use Rattle.salt_eval.proofs.Selecting.{when_err, when_ok}
use Rattle.salt_eval.proofs.statements.update.Goals as goal
use Rattle.salt_exprs.specs.Resolving.{ResolvesFilter}
use Rattle.salt_model.specs.declared.events.Answer.TheVariants.{Count}
use Rattle.std.proofs.Common.{Ok, ap, refl, sym, ◌∙◌}
use Rattle.std.proofs.lemmas.Result.{err_from_is_err_and}

pub returns-in_err-scan-clause-done : goal.returns-in_err-scan-clause-done
returns-in_err-scan-clause-done g c = λ name.
    let fits : ResolvesFilter c.in_ok-filter.filter c.args.def.now.columns c.args.vars.now c.args.rows.now.filter = rw (← c.as_slice.ensures) c.in_ok-filter.ensures in
    let p = err_from_is_err_and c.from_residual-in_err-scan.result c.from_residual-in_err-scan.ensures.1 in
    when_err (updates c.args.table c.args.def.now c.args.vars.now (g.V.RowView.tables c.args.view.now) name c.args.rows.now c.in_ok-range.range c.in_ok-range.ensures c.in_ok-filter.filter c.requires fits c.args.sets.now (record { table = c.args.table; def = c.args.def; vars = c.args.vars; sets = c.args.sets; changes = c.new.result }) refl refl refl refl c.new.ensures) c.scan.new.gather c.in_err-scan.field-0.0 p.0 c.from_residual-in_err-scan.result c.in_err-scan.ensures.gathered p.1 p.2

pub returns-clause-done : goal.returns-clause-done
returns-clause-done g c = λ name.
    let fits : ResolvesFilter c.in_ok-filter.filter c.args.def.now.columns c.args.vars.now c.args.rows.now.filter = rw (← c.as_slice.ensures) c.in_ok-filter.ensures in
    when_ok (updates c.args.table c.args.def.now c.args.vars.now (g.V.RowView.tables c.args.view.now) name c.args.rows.now c.in_ok-range.range c.in_ok-range.ensures c.in_ok-filter.filter c.requires fits c.args.sets.now (record { table = c.args.table; def = c.args.def; vars = c.args.vars; sets = c.args.sets; changes = c.new.result }) refl refl refl refl c.new.ensures) c.scan.new.gather c.in_ok-scan.ensures.gathered ∙ ap (λ n. Ok (Count n, c.scan.new.gather.changes)) (sym c.len.ensures)
