use Rattle.law_states.specs.Restoring.{TakenEach}
use Rattle.salt_early.proofs.cover.take_each.Given as goal
use Rattle.salt_model.specs.declared.locks.Family.TheVariants.{Alkaline}
use Rattle.std.proofs.Common.{take}

abbrev pub invariant-loop-at : goal.invariant-loop-at
invariant-loop-at l = TakenEach l.unit Alkaline 0 (take l.at l.tables) l.initial.locks l.locks
