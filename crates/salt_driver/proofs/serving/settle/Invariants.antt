use Rattle.law_states.specs.Points.{Point}
use Rattle.salt_driver.proofs.serving.settle.Given as goal
use Rattle.salt_driver.proofs.Untold.{still_left}
use Rattle.salt_driver.specs.Standing.{AdvancesInLine, IsAt, IsOfSegment, IsSoundPoint, left_to_come}
use Rattle.salt_driver.specs.Counting.{CountsSoFar}
use Rattle.salt_storage.specs.Staying.{StaysWithin}
use Rattle.salt_model.specs.declared.events.Event.TheVariants.{Refused}
use Rattle.salt_model.specs.declared.events.Refusal.{Refusal}
use Rattle.std.specs.Prelude.{IsTrue, None, Some, length, ◌-◌, ◌^◌, ◌≡◌, ◌≤◌, ◌⊎◌}

abbrev pub invariant-loop-next : goal.invariant-loop-next
invariant-loop-next g l =
    ((p : Point) → IsSoundPoint p → IsAt (g.E.Stepping.stands_for (g.D.Disks.view l.initial.disks) l.initial.engine) l.line l.initial.next p →
    AdvancesInLine (g.E.Stepping.stands_for (g.D.Disks.view l.disks) l.engine) l.line p l.initial.story l.next l.story)
    × CountsSoFar l.line (g.D.Disks.view l.initial.disks) (g.D.Disks.view l.disks) l.initial.next l.initial.story l.story l.next
    × (IsTrue (g.D.Disks.view l.initial.disks).told → g.E.Stepping.turns l.engine ≤ g.E.Stepping.turns l.initial.engine)
    × StaysWithin (g.E.Stepping.asked l.initial.engine) (g.E.Stepping.asked l.engine) (g.D.Disks.view l.initial.disks) (g.D.Disks.view l.disks)
    × ((r : Refusal) → l.initial.next ≡ Some (Refused r) → IsTrue (g.D.Disks.view l.initial.disks).told → ((l.next ≡ l.initial.next) ⊎ (l.next ≡ None)) × (l.disks ≡ l.initial.disks))
    × g.E.Stepping.able (g.D.Disks.view l.disks) l.engine
    × IsOfSegment l.next

abbrev pub decreases-loop-next : goal.decreases-loop-next
decreases-loop-next g l = still_left (g.D.Disks.view l.disks).told (left_to_come (g.E.Stepping.waiting l.engine) l.next) (2 ^ 64 - length l.story)
