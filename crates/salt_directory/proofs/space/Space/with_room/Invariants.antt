use Rattle.salt_directory.proofs.space.Space.with_room.Given as goal
use Rattle.std.proofs.Common.{get_or, length, ◌-◌, ◌<◌, ◌≤◌}

abbrev pub invariant-loop-self : goal.invariant-loop-self
invariant-loop-self l = record {
  within : l.at < length l.self-inside.free.items;
  enough : l.needed ≤ get_or l.self-inside.most.items l.at 0;
}

abbrev pub decreases-loop-self : goal.decreases-loop-self
decreases-loop-self l = length l.self-inside.free.items - l.at
