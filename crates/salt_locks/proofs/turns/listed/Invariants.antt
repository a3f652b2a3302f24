use Rattle.salt_locks.proofs.turns.listed.Given as goal
use Rattle.salt_locks.specs.Turns.{at_numbers, numbered_of}
use Rattle.std.proofs.Common.{map, ◌++◌, ◌≡◌}

abbrev pub invariant-loop-number : goal.invariant-loop-number
invariant-loop-number l = map numbered_of l.list.items ++ at_numbers l.number-iterator ≡ at_numbers l.fn.taken.entries
