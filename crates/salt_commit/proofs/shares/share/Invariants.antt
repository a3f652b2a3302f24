use Rattle.salt_commit.proofs.shares.share.Given as goal
use Rattle.salt_stands.specs.Placed.{changes_at}
use Rattle.std.proofs.Common.{take, ◌≡◌}

abbrev pub invariant-loop-change : goal.invariant-loop-change
invariant-loop-change g l = l.own ≡ changes_at l.shape l.part (take l.change-index l.changes)
