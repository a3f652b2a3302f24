use Rattle.salt_judge.proofs.Reading.{freed_more}
use Rattle.salt_judge.proofs.readers.freed_in.Goals as goal
use Rattle.salt_judge.specs.Reads.{freed_in}
use Rattle.salt_judge.specs.declared.reads.Opening.{Opening}
use Rattle.salt_model.specs.Programs.{shares}
use Rattle.salt_values.specs.declared.id.Id.{Id}
use Rattle.std.proofs.Common.{List, [], ap, arith, if◌then◌else◌, take, ◌++◌, ◌∙◌}

pub loop-opening-preserved : goal.loop-opening-preserved
loop-opening-preserved c =
    let o = c.opening-item.result in
    let bs = c.args.bases.now in
    let os = c.args.openings.now in
    let i = c.loop-opening.opening-index in
    c.in_ok-add_passed.ensures
    ∙ ap (λ (us : List Id). us ++ (if shares o.named bs then o.passed else [])) c.loop-opening.invariant
    ∙ ap (λ (x : Opening). freed_in bs (take i os) ++ (if shares x.named bs then x.passed else [])) c.opening-item.is ∙ freed_more bs os i o (omega arith)
