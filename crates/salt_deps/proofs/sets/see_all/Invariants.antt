use Rattle.salt_deps.proofs.sets.see_all.Given as goal
use Rattle.salt_deps.specs.Walks.{SeesAll}
use Rattle.std.proofs.Common.{take}

abbrev pub invariant-loop-name : goal.invariant-loop-name
invariant-loop-name l = SeesAll (take l.name-index l.names) l.fn.seen.keys l.fn.ahead.items l.seen.keys l.ahead.items
