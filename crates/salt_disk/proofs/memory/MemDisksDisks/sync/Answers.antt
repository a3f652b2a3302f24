use Rattle.salt_disk.proofs.Seen.{settled_at}
use Rattle.salt_disk.proofs.Stopping.{stop_cause}
use Rattle.salt_disk.proofs.memory.MemDisksDisks.sync.Goals as goal
use Rattle.std.proofs.Common.{sym, ◌∙◌}
use Rattle.std.specs.Prelude.{slice_get}

pub returns-in-Some-clause-cause : goal.returns-in-Some-clause-cause
returns-in-Some-clause-cause c =
    stop_cause c.args.self.now c.count_write.new.self c.stop.new.self c.in-Some.pick (sym c.due_pick-pick.ensures ∙ c.in-Some.is) c.count_write.ensures.plan c.stop.ensures.plan

pub returns-clause-ok : goal.returns-clause-ok
returns-clause-ok c image left =
    let change = c.sync_at.ensures in
    settled_at (slice_get c.sync_at.new.devices.items c.args.dev) change.after change.is change.related.synced image left
