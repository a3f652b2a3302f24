use Rattle.law_states.specs.KeptLocks.{Numbered}
use Rattle.salt_conflicts.proofs.Holding.{held-taken}
use Rattle.salt_conflicts.proofs.watching.Watching.reached.Goals as goal
use Rattle.salt_conflicts.specs.Holders.{KnowsHolders}
use Rattle.salt_model.specs.Locks.{lock_of}
use Rattle.salt_model.specs.declared.events.Owner.{Owner}
use Rattle.std.proofs.Common.{List, subst, sym}

pub invariant_of-self : goal.invariant_of-self
invariant_of-self c =
    let x = c.self.inside in
    subst (λ (ns : List Numbered). KnowsHolders x.held x.holders.items ns x.waits.items) (sym c.in_err-grant.ensures.err) c.self.invariant

pub invariant_of-self-2 : goal.invariant_of-self-2
invariant_of-self-2 c =
    let x = c.self.inside in
    held-taken x.taken (lock_of (Owner.Unit c.args.unit) c.args.family c.args.reach.now) x.held x.holders.items x.locks c.grant.new.self x.waits.items c.in_ok-grant.ensures.ok c.self.invariant
