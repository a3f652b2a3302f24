use Rattle.salt_conflicts.proofs.Told.{held-free}
use Rattle.salt_conflicts.proofs.served.clash_of.Goals as goal
use Rattle.salt_locks.specs.Tables.{locks_in}
use Rattle.salt_conflicts.specs.Waiters.{holds_up}
use Rattle.std.proofs.Common.{subst, sym, true, ◌∙◌, ◌≡◌}

pub returns-then-holds_up-clause-held : goal.returns-then-holds_up-clause-held
returns-then-holds_up-clause-held c = c.requires

pub returns-then-holds_up-clause-free : goal.returns-then-holds_up-clause-free
returns-then-holds_up-clause-free c =
    held-free (locks_in c.args.locks.now) c.args.waiter.now c.args.last c.requires (sym c.holds_up.ensures ∙ c.if-holds_up.true)

pub returns-then-holds_up-clause-clashes : goal.returns-then-holds_up-clause-clashes
returns-then-holds_up-clause-clashes c = λ l is.
    let w = c.args.waiter.now in
    subst (λ o. holds_up o w.reach w.unit w.family ≡ true) is (sym c.holds_up.ensures ∙ c.if-holds_up.true)
