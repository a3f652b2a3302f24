use Rattle.law_states.specs.KeptWaits.{served_in}
use Rattle.law_states.specs.Members.{In}
use Rattle.salt_conflicts.proofs.served.served.Given as goal
use Rattle.salt_conflicts.specs.Holders.{AreHeldUp}
use Rattle.salt_conflicts.specs.Waiters.{askers}
use Rattle.salt_locks.specs.Tables.{locks_in}
use Rattle.salt_model.specs.declared.locks.Lock.{Lock}
use Rattle.std.proofs.Common.{Some, drop, option_copied, take, ◌≡◌}

abbrev pub invariant-loop-waiter : goal.invariant-loop-waiter
invariant-loop-waiter l =
    (served_in (locks_in l.locks) (askers l.waits) ≡ served_in (locks_in l.locks) (askers (drop l.waiter-index l.waits)))
    × ((k : Lock) → option_copied l.last ≡ Some k → In k (locks_in l.locks))
    × AreHeldUp l.holders.items (locks_in l.locks) (take l.waiter-index l.waits)
