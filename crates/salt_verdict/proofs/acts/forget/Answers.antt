use Rattle.salt_audit.proofs.Named.{one_put}
use Rattle.salt_verdict.proofs.acts.forget.Goals as goal
use Rattle.std.proofs.Common.{None}

pub returns : goal.returns
returns c = λ u. one_put c.args.acts.now c.remove.new.self c.args.unit None c.remove.ensures.updates.0 u
