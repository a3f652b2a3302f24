use Rattle.law_states.specs.Members.{In}
use Rattle.salt_locks.proofs.OneLock.{in-got, lock_is}
use Rattle.salt_locks.proofs.Puts.{locks_beside}
use Rattle.salt_locks.proofs.table.LockTable.holds.Goals as goal
use Rattle.salt_locks.specs.Tables.{locks_in}
use Rattle.std.proofs.Common.{ap, arith, length, subst, sym, ◌-◌, ◌<◌, ◌≡◌, ◌∙◌}

pub returns : goal.returns
returns c = λ yes.
    let ls = c.self.inside.locks.items in
    let lock = c.index.result.now in
    let behind = c.count_no_later-behind.result in
    let bound = c.count_no_later-behind.ensures.bound in
    let some = c.if-behind-eq0.false in
    let least : behind - 1 < length ls = omega (arith, bound, some) in
    let all : ls ≡ locks_in c.args.self.now = sym (locks_beside c.self.inside.numbers.items ls c.self.invariant.0) ∙ ap locks_in c.self.view_is in
    subst (λ l. In l (locks_in c.args.self.now)) (lock_is c.args.owner c.args.family c.args.reach.now lock (sym c.is_lock_of.ensures ∙ yes))
    (subst (In lock) all (subst (λ l. In l ls) (sym c.index.ensures) (in-got ls (behind - 1) lock least)))
