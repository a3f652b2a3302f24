use Rattle.salt_judge.proofs.meetings.forget.Goals as goal
use Rattle.salt_judge.specs.Meetings.{is_live}
use Rattle.std.proofs.Common.{rules}
use Rattle.std.proofs.lemmas.Fn.{filter_same}

pub returns : goal.returns
returns c = filter_same _ (is_live c.args.ledger.now c.args.reads.now) _ (λ x b f' k. search rules) _ _ c.retain.ensures.filtered
