use Rattle.law_states.specs.KeptWaits.{served_in}
use Rattle.salt_conflicts.specs.Holders.{AreHeldUp}
use Rattle.salt_conflicts.specs.Waiters.{askers}
use Rattle.salt_locks.specs.Tables.{locks_in}
use Rattle.salt_conflicts.proofs.Holding.{none-served, none-told}
use Rattle.salt_conflicts.proofs.Seen.{watch-shown}
use Rattle.salt_conflicts.proofs.Told.{served-read}
use Rattle.salt_conflicts.proofs.watching.Watching.served.Goals as goal
use Rattle.std.proofs.Common.{subst, sym, ◌≡◌, ◌∙◌}

pub returns-then-self : goal.returns-then-self
returns-then-self c = λ w h.
    let x = c.self.inside in
    let s = watch-shown _ _ w c.self.view_is h in
    (sym (none-served x.holders.items (locks_in x.locks) x.waits.items (c.self.invariant c.if-self.true)) ∙ served-read w x.locks x.waits.items s.table s.waits, h)

pub returns : goal.returns
returns c = λ w h.
    let x = c.self.inside in
    let s = watch-shown _ _ w c.self.view_is h in (
      subst (λ l. c.in_ok-unit.unit ≡ served_in (locks_in x.locks) (askers l)) c.deref.ensures.value c.in_ok-unit.ensures.told ∙ served-read w x.locks x.waits.items s.table s.waits,
      s,
    )

pub invariant_of-self-2 : goal.invariant_of-self-2
invariant_of-self-2 c = λ sure.
    let x = c.self.inside in
    subst (λ l. AreHeldUp c.served.new.holders.items (locks_in x.locks) l) c.deref.ensures.value (c.in_ok-unit.ensures.held (none-told c.in_ok-unit.unit _ c.is_none-self-inside.ensures sure))
