use Rattle.salt_found.proofs.Following.{find_cont}
use Rattle.salt_found.proofs.moves.cont_in.Goals as goal
use Rattle.std.proofs.Common.{◌∙◌}

pub returns : goal.returns
returns c = c.first_of.ensures ∙ find_cont c.args.base c.args.conts.now
