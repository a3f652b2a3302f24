use Rattle.salt_cont.proofs.Joined.{commits}
use Rattle.salt_cont.proofs.laws.commits_move.Goals as goal

pub returns : goal.returns
returns c = commits
