use Rattle.salt_ast.specs.ProgramJudgement.{session_scope}
use Rattle.salt_scheduler.proofs.Told.{statement-told}
use Rattle.salt_scheduler.proofs.judge.statement_refusal.Goals as goal
use Rattle.salt_schema.specs.Refusals.{IsAnswer, statement_refusal}
use Rattle.std.proofs.Common.{[], subst, ◌∙◌}
use Rattle.std.proofs.lemmas.Result.{IfOk-weaker}

pub returns : goal.returns
returns c =
    let schema = c.args.schema.now in
    let statement = c.args.statement.now in
    let answer : IsAnswer (statement_refusal schema session_scope statement) c.check.result =
    subst (λ vars. IsAnswer (statement_refusal schema (record { params = []; vars = vars }) statement) c.check.result) c.new-2.ensures
    (subst (λ params. IsAnswer (statement_refusal schema (record { params = params; vars = c.new-2.result }) statement) c.check.result) c.new.ensures c.check.ensures) in
    IfOk-weaker c.refusal_by_schema.result _ _ (λ refusal told. told (statement_refusal schema session_scope statement) answer ∙ statement-told schema statement) c.refusal_by_schema.ensures
