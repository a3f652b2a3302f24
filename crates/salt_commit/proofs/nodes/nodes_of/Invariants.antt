use Rattle.salt_commit.proofs.nodes.nodes_of.Given as goal
use Rattle.salt_commit.specs.Messages.{nodes_of}
use Rattle.std.proofs.Common.{take, ◌≡◌}

abbrev pub invariant-loop-number : goal.invariant-loop-number
invariant-loop-number l = l.nodes ≡ nodes_of (take l.number l.shares)
