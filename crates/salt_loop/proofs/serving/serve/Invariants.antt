use Rattle.salt_io.specs.Lines.{IsReadingOf}
use Rattle.salt_model.specs.Arming.{armed_by_lines}
use Rattle.salt_model.specs.Trace.{Start, Trace}
use Rattle.salt_promise.specs.declared.status.Status.TheVariants.{Done}
use Rattle.salt_loop.proofs.serving.serve.Given as goal
use Rattle.salt_loop.specs.Run.{streams}
use Rattle.salt_loop.specs.Counted.{CountsAdded}
use Rattle.salt_loop.specs.Serving.{IsServing, IsToBegin}
use Rattle.salt_storage.specs.Staying.{StaysWithin}
use Rattle.salt_values.specs.declared.limits.TheConstants.{SCRIPT_MOST}
use Rattle.std.proofs.Common.{List, Some, ℕ, ◌-◌, ◌≡◌}

abbrev pub invariant-lines : goal.invariant-lines
invariant-lines g l = record {
  over : (start : Start) (trace : Trace) → IsToBegin (g.E.Stepping.on_devices (g.D.Disks.view l.fn.disks) l.fn.database) (g.E.Stepping.flight l.fn.database) start l.fn.story trace →
      (first : List (ℕ × ℕ)) → armed_by_lines first trace ≡ Some (g.D.Disks.view l.fn.disks).armed → IsServing (g.E.Stepping.stands_for (g.D.Disks.view l.disks) l.database) start (streams (g.S.Source.left l.fn.source) (g.S.Source.left l.source) (g.K.Sink.held l.fn.sink) (g.K.Sink.held l.sink)) l.serving.lines l.story first (g.D.Disks.view l.disks).armed;
  reads : g.S.Source.faults l.source ≡ g.S.Source.faults l.fn.source;
  writes : g.K.Sink.faults l.sink ≡ g.K.Sink.faults l.fn.sink;
  within : StaysWithin (g.E.Stepping.asked l.fn.database) (g.E.Stepping.asked l.database) (g.D.Disks.view l.fn.disks) (g.D.Disks.view l.disks);
  counts : CountsAdded (g.D.Disks.view l.fn.disks) (g.D.Disks.view l.disks) Done l.fn.story l.story;
  able : g.E.Stepping.able (g.D.Disks.view l.disks) l.database;
  of : IsReadingOf l.serving.lines (g.S.Source.left l.source);
}

abbrev pub decreases-lines : goal.decreases-lines
decreases-lines g l = SCRIPT_MOST - l.serving.lines.taken
