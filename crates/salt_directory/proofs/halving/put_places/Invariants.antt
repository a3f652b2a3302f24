use Rattle.salt_directory.proofs.halving.put_places.Given as goal
use Rattle.salt_directory.specs.Halves.{placed_on}
use Rattle.std.proofs.Common.{◌≡◌}

abbrev pub invariant-loop-place : goal.invariant-loop-place
invariant-loop-place l = l.directory ≡ placed_on l.page l.yielded l.fn.directory
