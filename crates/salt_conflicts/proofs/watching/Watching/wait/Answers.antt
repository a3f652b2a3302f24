use Rattle.salt_deps.specs.Kept.{dependencies}
use Rattle.salt_conflicts.specs.declared.watching.Watching.{Watching}
use Rattle.salt_model.specs.declared.events.Event.TheVariants.{Waits}
use Rattle.salt_conflicts.proofs.Goes.{goes, has-waited, kept, plus-none, wait-leaves}
use Rattle.salt_conflicts.proofs.Holding.{unknown}
use Rattle.salt_conflicts.proofs.Seen.{watch-shown}
use Rattle.salt_conflicts.proofs.watching.Watching.wait.Goals as goal
use Rattle.std.proofs.Common.{refl}
use Rattle.std.specs.Prelude.{false}

pub returns : goal.returns
returns c w f a owners h asks is =
    let s = watch-shown _ _ w c.self.view_is h in
    let x = c.self.inside in
    let old : Watching = record { locks = x.locks; taken = x.taken; waits = x.waits.items; programs = x.programs.names; deps = x.deps } in
    let new : Watching = record { locks = x.locks; taken = x.taken; waits = c.push.new.self.items; programs = x.programs.names; deps = x.deps } in
    let u = c.args.waiter.unit in
    goes (dependencies x.deps) old new w f (Waits u owners) s (kept old.locks) (plus-none old.taken)
    (has-waited f.asks a c.args.waiter u w.waits old.waits c.leave.new.waits.items new.waits s.waits c.leave.ensures c.in_ok-push.ensures.items asks is)
    refl (wait-leaves f u owners (dependencies x.deps))

pub invariant_of-self : goal.invariant_of-self
invariant_of-self c = unknown false c.self.inside.holders.items c.self.inside.locks c.push.new.self.items refl
