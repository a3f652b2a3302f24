use Rattle.salt_cont.proofs.Ahead.{branch_small}
use Rattle.salt_cont.proofs.places.next_on_failure.Goals as goal

pub returns-then-tries-eq0-clause-small : goal.returns-then-tries-eq0-clause-small
returns-then-tries-eq0-clause-small c = branch_small c.args.parts.now c.args.number c.next_on_branch.result c.requires c.next_on_branch.ensures
