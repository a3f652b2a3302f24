-- What a value of `Watching` shows: the parts that are kept.
use Rattle.law_states.specs.KeptLocks.{Numbered}
use Rattle.salt_conflicts.specs.declared.waiters.Waiter.{Waiter}
use Rattle.salt_deps.specs.declared.deps.Deps.{Deps}
use Rattle.salt_values.specs.declared.id.Id.{Id}
use Rattle.std.specs.Prelude.{List, ℕ}

-- the held locks and how many were taken, the units that wait, the longest first, the programs that are not released, and who wrote, read and has finished
pub record Parts : Type 0 where
  pub locks : List Numbered
  pub taken : ℕ
  pub waits : List Waiter
  pub programs : List Id
  pub deps : Deps
