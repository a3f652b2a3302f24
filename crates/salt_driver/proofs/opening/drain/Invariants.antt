use Rattle.salt_ast.specs.declared.lines.Line.TheVariants.{Nothing}
use Rattle.law_states.specs.Points.{Point}
use Rattle.salt_driver.proofs.Draining.{Drains}
use Rattle.salt_driver.proofs.opening.drain.Given as goal
use Rattle.salt_driver.specs.Counting.{CountsOpening, armed_at}
use Rattle.salt_driver.proofs.Untold.{still_left}
use Rattle.salt_driver.specs.Standing.{IsOfSegment, IsOpeningAt, IsSoundPoint}
use Rattle.salt_storage.specs.Staying.{StaysWithin}
use Rattle.std.specs.Prelude.{None, Some, [], length, ◌-◌, ◌^◌, ◌≡◌}

abbrev pub invariant-loop-next : goal.invariant-loop-next
invariant-loop-next g l =
    ((p : Point) → IsSoundPoint p → IsOpeningAt (g.E.Stepping.stands_for (g.D.Disks.view l.fn.disks) l.fn.database) (Some l.fn.first) p →
    Drains (g.E.Stepping.stands_for (g.D.Disks.view l.disks)) p l.fn.first l.fn.story l.database l.next l.story l.fn.steps l.steps)
    × CountsOpening (g.D.Disks.view l.fn.disks) (g.D.Disks.view l.disks) None l.fn.story l.story
    × (armed_at Nothing l.next ≡ [])
    × StaysWithin (g.E.Stepping.asked l.fn.database) (g.E.Stepping.asked l.database) (g.D.Disks.view l.fn.disks) (g.D.Disks.view l.disks)
    × g.E.Stepping.able (g.D.Disks.view l.disks) l.database
    × IsOfSegment l.next

abbrev pub decreases-loop-next : goal.decreases-loop-next
decreases-loop-next g l = still_left (g.D.Disks.view l.disks).told (g.E.Openable.to_open l.database l.next) (2 ^ 64 - length l.story)
