use Rattle.salt_cont.proofs.Ahead.{commit_small}
use Rattle.salt_cont.proofs.places.next_from.Goals as goal

pub returns-else-failed-clause-small : goal.returns-else-failed-clause-small
returns-else-failed-clause-small c = commit_small c.args.parts.now c.args.cont.now.next c.next_on_commit.result c.requires c.next_on_commit.ensures
