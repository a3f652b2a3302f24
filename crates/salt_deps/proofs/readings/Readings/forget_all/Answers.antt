use Rattle.salt_deps.proofs.Grouping.{both-left}
use Rattle.salt_deps.proofs.readings.Readings.forget_all.Goals as goal
use Rattle.salt_deps.specs.Group.{is_mutual}
use Rattle.salt_deps.specs.Maps.{is_source}
use Rattle.salt_values.specs.Id.{has_id}
use Rattle.std.proofs.Common.{◌||◌}

pub returns : goal.returns
returns c x y =
    let old = c.args.self.now in
    both-left (is_source old.links.sources x y) (is_mutual old.group x y) (is_source c.forget_all.new.self.sources x y) (is_mutual c.forget_all-2.new.self x y)
    (has_id x c.args.names.now || has_id y c.args.names.now) (c.forget_all.ensures x y) (c.forget_all-2.ensures x y)
