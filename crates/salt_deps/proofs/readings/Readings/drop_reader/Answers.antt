use Rattle.salt_deps.proofs.Grouping.{both-left}
use Rattle.salt_deps.proofs.readings.Readings.drop_reader.Goals as goal
use Rattle.salt_deps.specs.Group.{is_mutual}
use Rattle.salt_deps.specs.Maps.{is_source}
use Rattle.salt_values.specs.Id.{is_same_id}

pub returns : goal.returns
returns c x y =
    let old = c.args.self.now in
    both-left (is_source old.links.sources x y) (is_mutual old.group x y) (is_source c.drop_reader.new.self.sources x y) (is_mutual c.drop_reader-2.new.self x y)
    (is_same_id x c.args.reader) (c.drop_reader.ensures x y) (c.drop_reader-2.ensures x y)
