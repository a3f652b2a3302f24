use Rattle.salt_cont.proofs.Joined.{branches}
use Rattle.salt_cont.proofs.laws.branches_move.Goals as goal

pub returns : goal.returns
returns c = branches
