use Rattle.salt_books.proofs.conts.replace_cont.Given as goal
use Rattle.salt_stands.specs.OpenConts.{replace_cont}
use Rattle.std.proofs.Common.{drop, length, take, ◌++◌, ◌-◌, ◌≡◌, ◌≤◌}

abbrev pub invariant-loop-at : goal.invariant-loop-at
invariant-loop-at l = record {
  within : l.at ≤ length l.initial.conts;
  so_far : l.conts ≡ replace_cont l.cont (take l.at l.initial.conts) ++ drop l.at l.initial.conts;
}

abbrev pub decreases-loop-at : goal.decreases-loop-at
decreases-loop-at l = length l.initial.conts - l.at
