use Rattle.salt_disk.specs.Disks.{stops_left}
use Rattle.salt_model.specs.Trace.{Start, Trace}
use Rattle.salt_driver.proofs.opening.open.Given as goal
use Rattle.salt_driver.specs.Counting.{CountsOpening}
use Rattle.salt_driver.specs.Reopening.{FallsAnew}
use Rattle.salt_driver.specs.Serving.{IsDown}
use Rattle.salt_storage.specs.Staying.{StaysWithin}
use Rattle.std.specs.Prelude.{None}

abbrev pub invariant-stops : goal.invariant-stops
invariant-stops g l =
    g.E.Openable.settled (g.D.Disks.view l.disks) l.database
    × ((start : Start) (trace : Trace) → IsDown (g.E.Stepping.on_devices (g.D.Disks.view l.fn.disks) l.fn.database) (g.E.Stepping.flight l.fn.database) start l.fn.story trace →
    FallsAnew (g.E.Stepping.on_devices (g.D.Disks.view l.disks) l.database) (g.E.Stepping.flight l.database) start trace l.fn.story l.story)
    × CountsOpening (g.D.Disks.view l.fn.disks) (g.D.Disks.view l.disks) None l.fn.story l.story
    × StaysWithin (g.E.Stepping.asked l.fn.database) (g.E.Stepping.asked l.database) (g.D.Disks.view l.fn.disks) (g.D.Disks.view l.disks)
    × g.E.Stepping.able (g.D.Disks.view l.disks) l.database

abbrev pub decreases-stops : goal.decreases-stops
decreases-stops g l = stops_left (g.D.Disks.view l.disks)
