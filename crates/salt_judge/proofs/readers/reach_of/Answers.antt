use Rattle.salt_judge.proofs.readers.reach_of.Goals as goal
use Rattle.salt_model.specs.Reaches.{reach}
use Rattle.salt_verdict.specs.Again.{Outcome}
use Rattle.std.proofs.Common.{ap, ◌∙◌}

pub returns : goal.returns
returns c = c.in_ok-found.ensures ∙ ap (λ (o : Outcome). reach c.args.ledger.now.state.schema o.vars c.args.statement.now) c.in_ok-again.ensures.outcome
