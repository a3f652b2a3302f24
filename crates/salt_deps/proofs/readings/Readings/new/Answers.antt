use Rattle.salt_deps.proofs.readings.Readings.new.Goals as goal
use Rattle.salt_deps.specs.Group.{is_mutual}
use Rattle.std.proofs.Common.{ap, ◌||◌, ◌∙◌}

pub returns : goal.returns
returns c x y = ap (λ t. t || is_mutual c.new-2.result x y) (c.new.ensures x y) ∙ c.new-2.ensures x y
