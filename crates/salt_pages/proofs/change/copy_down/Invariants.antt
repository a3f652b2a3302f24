use Rattle.salt_pages.proofs.change.copy_down.Given as goal
use Rattle.salt_pages.specs.Filling.{filled}
use Rattle.std.proofs.Common.{drop, take, ◌-◌, ◌≡◌, ◌≤◌}

abbrev pub invariant-loop-done : goal.invariant-loop-done
invariant-loop-done l = record {
  within : l.done ≤ l.count;
  so_far : l.out ≡ filled l.initial.out l.to (take l.done (drop l.from l.initial.out));
}

abbrev pub decreases-loop-done : goal.decreases-loop-done
decreases-loop-done l = l.count - l.done
