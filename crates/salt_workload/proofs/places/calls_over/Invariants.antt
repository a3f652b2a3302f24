use Rattle.std.proofs.Common.{◌+◌, ◌*◌, ◌/◌, ◌≤◌}
use Rattle.salt_workload.specs.Places.{lines_through}
use Rattle.salt_workload.proofs.places.calls_over.Given as goal

-- where one more call may be over, each step so far counted one
abbrev pub invariant-loop : goal.invariant-loop
invariant-loop l = record {
  over : lines_through l.calls ≤ l.at;
  enough : lines_through (l.calls + 1) ≤ l.at → l.at * 200 / 237 + l.counter ≤ l.calls;
}
