use Rattle.salt_commit.proofs.shares.shares_of.Given as goal
use Rattle.salt_stands.specs.Pieces.{listed}
use Rattle.salt_stands.specs.Placed.{changes_at}
use Rattle.std.proofs.Common.{◌≡◌}

abbrev pub invariant-loop-part : goal.invariant-loop-part
invariant-loop-part g l = l.shares.items ≡ listed (λ p. changes_at l.fn.shape p l.fn.changes) 0 l.part
