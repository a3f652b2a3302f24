use Rattle.salt_eval.proofs.Attempts.{outcome-told}
use Rattle.salt_eval.proofs.statements.execute.Goals as goal
use Rattle.salt_eval.specs.Effects.{IsEffect, attempted}
use Rattle.salt_eval.specs.Scans.{GivesMeant}
use Rattle.salt_model.specs.Statements.{outcome_of}
use Rattle.salt_model.specs.declared.events.Answer.TheVariants.{Failed}
use Rattle.std.proofs.Common.{Err, Ok, ap, subst, sym, ◌∙◌}

pub returns-in-Ok-clause-done : goal.returns-in-Ok-clause-done
returns-in-Ok-clause-done g c =
    outcome-told c.args.vars.now (g.V.RowView.tables c.args.view.now) c.args.schema.now c.args.statement.now (Ok c.in-Ok.effect)
    (ap (λ vars. attempted c.args.schema.now vars c.args.statement.now (g.V.RowView.tables c.args.view.now)) (sym c.as_slice.ensures) ∙ c.in-Ok.ensures.done)

pub returns-in-Err-Cause-clause-done : goal.returns-in-Err-Cause-clause-done
returns-in-Err-Cause-clause-done g c =
    let done = subst (λ e. GivesMeant (attempted c.args.schema.now c.as_slice.result.now c.args.statement.now (g.V.RowView.tables c.args.view.now)) (Err e)) c.in-Err-Cause.field-0-is c.in-Err-Cause.ensures.done in
    subst (λ l. IsEffect (Failed c.in-Err-Cause.cause, l) (outcome_of c.args.schema.now (g.V.RowView.tables c.args.view.now) c.args.vars.now c.args.statement.now)) (sym c.new.ensures)
    (outcome-told c.args.vars.now (g.V.RowView.tables c.args.view.now) c.args.schema.now c.args.statement.now (Err c.in-Err-Cause.cause)
    (ap (λ vars. attempted c.args.schema.now vars c.args.statement.now (g.V.RowView.tables c.args.view.now)) (sym c.as_slice.ensures) ∙ done))
