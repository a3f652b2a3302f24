use Rattle.salt_deps.proofs.due.held.Given as goal
use Rattle.salt_deps.specs.Due.{AreHeld}
use Rattle.salt_deps.specs.Group.{reads_in}
use Rattle.std.proofs.Common.{take, ◌∷◌}

abbrev pub invariant-loop-name : goal.invariant-loop-name
invariant-loop-name l = AreHeld (reads_in l.readings) (l.base ∷ l.finished.keys) (l.base ∷ l.found.keys) (take l.name-index l.names) l.held.items
