use Rattle.salt_decisions.proofs.Saids.{heard_decision}
use Rattle.salt_decisions.proofs.said.Said.hear_decision.Goals as goal
use Rattle.std.proofs.Common.{true, ◌+◌, ◌≡◌}
use Rattle.std.specs.Prelude.{◌==◌}

pub returns : goal.returns
returns c t h =
    let fits : (c.args.decided.number == c.args.self.now.decisions + 1) ≡ true = cc in
    heard_decision c.args.self.now t h c.args.decided c.push.new.self c.push-2.new.self c.push-3.new.self fits c.in_ok-push.ensures.ok c.in_ok-push-2.ensures.ok c.in_ok-push-3.ensures.ok
