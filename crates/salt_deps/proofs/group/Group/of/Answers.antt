use Rattle.salt_deps.proofs.Grouping.{mutual-same}
use Rattle.salt_deps.proofs.group.Group.of.Goals as goal

pub returns : goal.returns
returns c =
    mutual-same c.in_ok-readers.readers.keys c.in_ok-sources.sources.keys c.args.names.now c.args.names.now c.in_ok-readers.ensures c.in_ok-sources.ensures
