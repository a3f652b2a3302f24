use Rattle.salt_commit.proofs.Votes.{Votes}
use Rattle.salt_commit.proofs.vote.vote_all.Given as goal
use Rattle.salt_commit.specs.Messages.{nodes_of}
use Rattle.salt_turns.specs.Amid.{first_of}
use Rattle.std.proofs.Common.{◌-◌, ◌^◌}

abbrev pub invariant-vote : goal.invariant-vote
invariant-vote g l = Votes (g.D.Disks.view l.fn.disks) (g.D.Disks.view l.disks) l.fn.parts.items l.parts.items l.unit l.shares (first_of l.unit (nodes_of l.shares) l.fn.messages) l.messages

abbrev pub decreases-vote : goal.decreases-vote
decreases-vote g l = 2 ^ 64 - l.steps
