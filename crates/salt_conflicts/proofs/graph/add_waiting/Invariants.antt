use Rattle.salt_deps.specs.Kept.{dependencies}
use Rattle.law_states.specs.KeptWaits.{waiting_for}
use Rattle.salt_conflicts.proofs.graph.add_waiting.Given as goal
use Rattle.salt_conflicts.specs.Waiters.{askers}
use Rattle.std.proofs.Common.{take, ◌++◌, ◌≡◌}

abbrev pub invariant-loop-waiter : goal.invariant-loop-waiter
invariant-loop-waiter l = l.edges ≡ l.initial.edges ++ waiting_for (dependencies l.deps) (askers (take l.waiter-index l.waits)) l.among
