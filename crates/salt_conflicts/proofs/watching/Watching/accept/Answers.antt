use Rattle.salt_deps.specs.Kept.{dependencies}
use Rattle.salt_conflicts.specs.declared.watching.Watching.{Watching}
use Rattle.salt_model.specs.declared.events.Event.TheVariants.{Accepted}
use Rattle.salt_conflicts.proofs.Goes.{accept-leaves, goes, kept, plus-none}
use Rattle.salt_conflicts.proofs.Seen.{watch-shown}
use Rattle.salt_conflicts.proofs.watching.Watching.accept.Goals as goal
use Rattle.std.proofs.lemmas.Result.{on_ok_weaker}

pub returns : goal.returns
returns c =
    let x = c.self.inside in
    let old : Watching = record { locks = x.locks; taken = x.taken; waits = x.waits.items; programs = x.programs.names; deps = x.deps } in
    let new : Watching = record { locks = x.locks; taken = x.taken; waits = x.waits.items; programs = c.insert.new.self.names; deps = x.deps } in
    on_ok_weaker c.insert.result
    (λ accepted w f h.
    let s = watch-shown _ _ w c.self.view_is h in
    goes (dependencies x.deps) old new w f (Accepted c.args.base) s (kept old.locks) (plus-none old.taken) s.waits accepted (accept-leaves f c.args.base (dependencies x.deps)))
    c.insert.ensures
