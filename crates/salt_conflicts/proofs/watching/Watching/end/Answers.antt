use Rattle.salt_deps.specs.Kept.{dependencies}
use Rattle.salt_conflicts.specs.declared.watching.Watching.{Watching}
use Rattle.law_states.proofs.LockCallsFit.{drop-fits}
use Rattle.law_states.specs.LockCalls.{HasDropped}
use Rattle.salt_locks.proofs.Fits.{drops}
use Rattle.salt_model.specs.declared.events.Event.TheVariants.{Ended}
use Rattle.salt_model.specs.declared.events.Owner.{Owner}
use Rattle.salt_conflicts.proofs.Goes.{ended, goes, has-left, plus-none}
use Rattle.salt_conflicts.proofs.Seen.{watch-shown}
use Rattle.salt_conflicts.proofs.watching.Watching.end.Goals as goal
use Rattle.salt_conflicts.specs.Holders.{is_among}
use Rattle.salt_conflicts.proofs.Holding.{held-handed}
use Rattle.std.proofs.Common.{ap, refl, subst, sym, ◌∙◌}
use Rattle.std.specs.Prelude.{None, not, ◌&&◌}

pub returns : goal.returns
returns c w f end h never first =
    let s = watch-shown _ _ w c.self.view_is h in
    let x = c.self.inside in
    let old : Watching = record { locks = x.locks; taken = x.taken; waits = x.waits.items; programs = x.programs.names; deps = x.deps } in
    let new : Watching = record { locks = c.drop_owner.new.self; taken = x.taken; waits = c.leave.new.waits.items; programs = x.programs.names; deps = c.give_up.new.deps } in
    let u = c.args.unit in
    goes (dependencies x.deps) old new w f (Ended u end) s
    (drop-fits f u end old.taken old.locks new.locks never (subst (HasDropped (Owner.Unit u) old.locks) (sym c.drop_owner.ensures) (drops (Owner.Unit u) old.locks)))
    (plus-none old.taken)
    (has-left u w.waits old.waits new.waits s.waits c.leave.ensures)
    refl
    (ended f u end c.args.first (dependencies x.deps) (dependencies new.deps) never first c.give_up.ensures)

pub invariant_of-self : goal.invariant_of-self
invariant_of-self c =
    let x = c.self.inside in
    let u = c.args.unit in
    held-handed u None x.held c.holds_without-self-inside.result x.holders.items x.locks c.drop_owner.new.self x.waits.items c.leave.new.waits.items
    (c.holds_without-self-inside.ensures ∙ ap (λ os. x.held && not (is_among (Owner.Unit u) os)) c.deref.ensures.value) c.drop_owner.ensures c.leave.ensures c.self.invariant
