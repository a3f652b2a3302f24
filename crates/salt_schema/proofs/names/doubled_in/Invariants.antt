use Rattle.salt_schema.proofs.Distinct.{IsSeen}
use Rattle.salt_schema.proofs.names.doubled_in.Given as goal
use Rattle.std.proofs.Common.{List, map, ℕ}

abbrev pub invariant-loop-at : goal.invariant-loop-at
invariant-loop-at g l = (seen : List (List ℕ)) × IsSeen g.T.Named.name (map g.T.Named.name l.before) l.items l.at seen
