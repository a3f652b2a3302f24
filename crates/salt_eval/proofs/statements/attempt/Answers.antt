use Rattle.salt_eval.proofs.Attempts.{attempted-known, attempted-unknown}
use Rattle.salt_eval.proofs.Tabled.{number-found}
use Rattle.salt_eval.proofs.statements.attempt.Goals as goal
use Rattle.salt_eval.specs.Scans.{GivesMeant}
use Rattle.salt_model.specs.Reaches.{table_in}
use Rattle.std.proofs.Common.{None, Some, ap, refl, slice_get, subst, sym, ◌∙◌, ◌≡◌}
use Rattle.std.specs.Option.{option_copied}

pub returns-in-Ensure-clause-faults : goal.returns-in-Ensure-clause-faults
returns-in-Ensure-clause-faults g c = c.ensure.ensures.faults (g.V.RowView.faults c.args.view.now)

pub returns-in_default-number : goal.returns-in_default-number
returns-in_default-number g c =
    let names : table_in c.args.statement.now ≡ Some c.in-Some.name.now = sym c.table_in.ensures ∙ ap option_copied c.in-Some.is in
    record {
      done = attempted-unknown c.args.vars.now (g.V.RowView.tables c.args.view.now) c.args.schema.now c.args.statement.now c.in-Some.name.now names (sym c.number.ensures ∙ c.in_default-number.is);
      kept = refl;
      source = refl;
      faults = refl;
    }

pub returns-in_default-table : goal.returns-in_default-table
returns-in_default-table g c =
    let none : slice_get c.args.schema.now c.in-Some-number.number ≡ None = sym c.table.ensures.value ∙ ap option_copied c.in_default-table.is in
    absurd (number-found c.in-Some.name.now c.args.schema.now c.in-Some-number.number (sym c.number.ensures ∙ c.in-Some-number.is) none)

pub returns : goal.returns
returns g c =
    let names : table_in c.args.statement.now ≡ Some c.in-Some.name.now = sym c.table_in.ensures ∙ ap option_copied c.in-Some.is in
    let known =
    attempted-known c.args.vars.now (g.V.RowView.tables c.args.view.now) c.args.schema.now c.args.statement.now c.in-Some.name.now names c.in-Some-number.number c.in-Some-table.def.now (sym c.number.ensures ∙ c.in-Some-number.is)
    (sym c.table.ensures.value ∙ ap option_copied c.in-Some-table.is) in
    record {
      done = subst (λ meant. GivesMeant meant c.attempt_in.result) (sym known) c.attempt_in.ensures.done;
      kept = c.attempt_in.ensures.kept;
      source = c.attempt_in.ensures.source;
      faults = c.attempt_in.ensures.faults;
    }
