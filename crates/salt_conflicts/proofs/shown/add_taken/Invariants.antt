use Rattle.salt_locks.specs.declared.turns.TakenLock.{TakenLock}
use Rattle.salt_model.specs.declared.shown.Item.{Item}
use Rattle.salt_conflicts.proofs.shown.add_taken.Given as goal
use Rattle.std.proofs.Common.{map, ◌++◌, ◌≡◌}

abbrev pub invariant-loop-one : goal.invariant-loop-one
invariant-loop-one l = l.items ≡ l.initial.items ++ map (λ (t : TakenLock). Item.Lock t.lock) l.yielded
