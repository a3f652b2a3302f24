use Rattle.salt_conflicts.proofs.Told.{found-held, found-passes, some-free}
use Rattle.salt_conflicts.proofs.served.first_clash.Goals as goal
use Rattle.salt_locks.specs.Tables.{locks_in}
use Rattle.salt_model.specs.Locks.{clashes, owners_of}
use Rattle.salt_model.specs.Words.{is_empty}
use Rattle.salt_model.specs.declared.events.Owner.{Owner}
use Rattle.salt_model.specs.declared.locks.Reach.{Reach}
use Rattle.law_states.specs.KeptLocks.{clash_in}
use Rattle.std.proofs.Common.{ap, sym, ◌∙◌}
use Rattle.salt_conflicts.specs.Waiters.{holds_up}
use Rattle.std.specs.Prelude.{Option, Some}

pub returns-in-Some-clause-held : goal.returns-in-Some-clause-held
returns-in-Some-clause-held c = λ l is.
    let w = c.args.waiter.now in
    found-held (clashes (Owner.Unit w.unit) w.family c.in-Some.reach) (locks_in c.args.locks.now) l (sym c.first_clash.ensures ∙ is)

pub returns-in-Some-clause-free : goal.returns-in-Some-clause-free
returns-in-Some-clause-free c =
    let w = c.args.waiter.now in
    let ls = locks_in c.args.locks.now in
    ap (λ (r : Option Reach). is_empty (owners_of (clash_in (Owner.Unit w.unit) w.family r ls))) c.in-Some.is
    ∙ some-free (clashes (Owner.Unit w.unit) w.family c.in-Some.reach) ls c.first_clash.result c.first_clash.ensures

pub returns-in-Some-clause-clashes : goal.returns-in-Some-clause-clashes
returns-in-Some-clause-clashes c = λ l is.
    let w = c.args.waiter.now in
    ap (λ (r : Option Reach). holds_up (Some l) r w.unit w.family) c.in-Some.is
    ∙ found-passes (clashes (Owner.Unit w.unit) w.family c.in-Some.reach) (locks_in c.args.locks.now) l (sym c.first_clash.ensures ∙ is)
