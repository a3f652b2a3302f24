use Rattle.law_states.specs.Overlays.{AreInOrder, edits_of}
use Rattle.salt_units.proofs.putting.put_waiting.Given as goal
use Rattle.salt_units.specs.Putting.{put_each}
use Rattle.std.specs.VecDeque.{deque_capacity, deque_len}
use Rattle.std.proofs.Common.{reverse, vec_len, ◌+◌, ◌≡◌, ◌≤◌}

abbrev pub invariant-loop-change : goal.invariant-loop-change
invariant-loop-change l = record {
  in_order : AreInOrder (edits_of l.changes.items);
  room : deque_len l.changes + vec_len l.waiting ≤ deque_capacity l.changes;
  rest : put_each (reverse l.waiting.items) l.changes.items ≡ put_each (reverse l.initial.waiting.items) l.initial.changes.items;
}

abbrev pub decreases-loop-change : goal.decreases-loop-change
decreases-loop-change l = vec_len l.waiting
