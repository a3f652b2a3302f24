use Rattle.salt_scheduler.proofs.Told.{table-told}
use Rattle.salt_schema.specs.Refusals.{table_refusal}
use Rattle.salt_scheduler.proofs.judge.table_refusal.Goals as goal
use Rattle.std.proofs.Common.{◌∙◌}
use Rattle.std.proofs.lemmas.Result.{IfOk-weaker}

pub returns : goal.returns
returns c =
    let schema = c.args.schema.now in
    let def = c.args.def.now in
    IfOk-weaker c.refusal_by_schema.result _ _ (λ refusal told. told (table_refusal schema def) c.judge.ensures ∙ table-told schema def) c.refusal_by_schema.ensures
