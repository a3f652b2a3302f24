use Rattle.salt_deps.proofs.readings.Readings.of_group.Goals as goal
use Rattle.salt_deps.specs.Group.{is_mutual}
use Rattle.std.proofs.Common.{ap, ◌||◌, ◌∙◌}

pub returns : goal.returns
returns c x y = ap (λ t. t || is_mutual c.in_ok-group.group x y) (c.new.ensures x y) ∙ c.in_ok-group.ensures x y
