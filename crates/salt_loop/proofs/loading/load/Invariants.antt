use Rattle.salt_model.specs.Arming.{armed_by_lines}
use Rattle.salt_model.specs.Trace.{Start, Trace}
use Rattle.salt_promise.specs.declared.status.Status.TheVariants.{Done}
use Rattle.salt_loop.proofs.loading.load.Given as goal
use Rattle.salt_loop.specs.Counted.{CountsAdded}
use Rattle.salt_loop.specs.Loading.{IsLoading}
use Rattle.salt_loop.specs.Serving.{IsToBegin}
use Rattle.salt_storage.specs.Staying.{StaysWithin}
use Rattle.std.proofs.Common.{List, Some, ℕ, ◌≡◌}

abbrev pub invariant-loop-i : goal.invariant-loop-i
invariant-loop-i g l = record {
  over : (start : Start) (trace : Trace) → IsToBegin (g.E.Stepping.on_devices (g.D.Disks.view l.fn.disks) l.fn.database) (g.E.Stepping.flight l.fn.database) start l.fn.story trace →
      (first : List (ℕ × ℕ)) → armed_by_lines first trace ≡ Some (g.D.Disks.view l.fn.disks).armed →
      IsLoading (g.E.Stepping.stands_for (g.D.Disks.view l.disks) l.database) start l.calls l.i l.story first (g.D.Disks.view l.disks).armed;
  within : StaysWithin (g.E.Stepping.asked l.fn.database) (g.E.Stepping.asked l.database) (g.D.Disks.view l.fn.disks) (g.D.Disks.view l.disks);
  counts : CountsAdded (g.D.Disks.view l.fn.disks) (g.D.Disks.view l.disks) Done l.fn.story l.story;
  able : g.E.Stepping.able (g.D.Disks.view l.disks) l.database;
}
