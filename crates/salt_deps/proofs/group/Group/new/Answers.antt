use Rattle.salt_deps.proofs.Grouping.{mutual-none}
use Rattle.salt_deps.proofs.group.Group.new.Goals as goal

pub returns : goal.returns
returns c = mutual-none c.new.result.keys c.new-2.result.keys c.new.ensures.empty
