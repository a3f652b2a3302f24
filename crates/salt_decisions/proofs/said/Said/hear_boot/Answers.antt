use Rattle.salt_decisions.proofs.Saids.{heard_boot}
use Rattle.salt_decisions.proofs.said.Said.hear_boot.Goals as goal
use Rattle.std.proofs.Common.{true, ◌+◌, ◌≡◌}
use Rattle.std.specs.Prelude.{◌==◌}

pub returns : goal.returns
returns c t h =
    let fits : (c.args.boot == c.args.self.now.boot + 1) ≡ true = cc in
    heard_boot c.args.self.now t h c.args.boot fits
