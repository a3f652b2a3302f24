use Rattle.salt_waits.proofs.walk.Walk.see_all.Given as goal
use Rattle.salt_waits.specs.Walks.{Adds}
use Rattle.std.proofs.Common.{take}

-- those before are seen
abbrev pub invariant-loop-vertex : goal.invariant-loop-vertex
invariant-loop-vertex l = Adds (take l.vertex-index l.vertices) l.fn.self l.self
