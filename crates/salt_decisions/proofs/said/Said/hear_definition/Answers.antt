use Rattle.salt_decisions.proofs.Saids.{heard_definition}
use Rattle.salt_decisions.proofs.said.Said.hear_definition.Goals as goal
use Rattle.std.proofs.Common.{true, ◌+◌, ◌≡◌}
use Rattle.std.specs.Prelude.{◌==◌}

pub returns : goal.returns
returns c t h =
    let fits : (c.args.definition.number == c.args.self.now.decisions + 1) ≡ true = cc in
    heard_definition c.args.self.now t h c.args.definition c.push.new.self fits c.in_ok-push.ensures.ok
