use Rattle.law_states.specs.Rising.{Rising}
use Rattle.salt_conflicts.proofs.programs.drop_each.Given as goal
use Rattle.salt_values.specs.Id.{without}
use Rattle.std.proofs.Common.{take, ◌≡◌}

abbrev pub invariant-loop-name : goal.invariant-loop-name
invariant-loop-name l = Rising l.names × (l.names ≡ without (take l.name-index l.gone) l.initial.names)
