use Rattle.salt_scheduler.proofs.Told.{program-told}
use Rattle.salt_program.specs.Refusals.{program_refusal}
use Rattle.salt_scheduler.proofs.judge.program_refusal.Goals as goal
use Rattle.std.proofs.Common.{◌∙◌}
use Rattle.std.proofs.lemmas.Result.{IfOk-weaker}

pub returns : goal.returns
returns c =
    let schema = c.args.schema.now in
    let catalogue = c.args.catalogue.now in
    let def = c.args.def.now in
    IfOk-weaker c.refusal_by_definition.result _ _ (λ refusal told. told (program_refusal schema catalogue def) c.judge.ensures ∙ program-told schema catalogue def) c.refusal_by_definition.ensures
