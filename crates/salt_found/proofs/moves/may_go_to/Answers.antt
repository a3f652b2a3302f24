use Rattle.salt_found.proofs.Following.{goes_new}
use Rattle.salt_found.proofs.moves.may_go_to.Goals as goal
use Rattle.std.proofs.Common.{ap}
use Rattle.std.specs.Option.{option_copied}

pub returns-in-None : goal.returns-in-None
returns-in-None c = goes_new c.args.cont.now c.args.conts.now (option_copied c.cont_in.result) c.are_accepted_before.result (ap option_copied c.in-None.is) c.cont_in.ensures c.are_accepted_before.ensures
