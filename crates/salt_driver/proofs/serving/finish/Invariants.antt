use Rattle.law_states.specs.Points.{Point}
use Rattle.salt_driver.proofs.serving.finish.Given as goal
use Rattle.salt_driver.specs.Counting.{CountsSoFar}
use Rattle.salt_driver.proofs.Untold.{still_left}
use Rattle.salt_driver.specs.Standing.{AdvancesInLine, IsAt, IsSoundPoint}
use Rattle.salt_storage.specs.Staying.{StaysWithin}
use Rattle.salt_model.specs.declared.events.Event.TheVariants.{Refused}
use Rattle.salt_model.specs.declared.events.Refusal.{Refusal}
use Rattle.std.specs.Prelude.{IsTrue, None, Some, [], ◌-◌, ◌^◌, ◌≡◌}

abbrev pub invariant-loop-base : goal.invariant-loop-base
invariant-loop-base g l =
    ((p : Point) → IsSoundPoint p → IsAt (g.E.Stepping.stands_for (g.D.Disks.view l.fn.disks) l.fn.engine) l.line l.fn.first p →
    AdvancesInLine (g.E.Stepping.stands_for (g.D.Disks.view l.disks) l.engine) l.line p l.fn.story None l.story)
    × CountsSoFar l.line (g.D.Disks.view l.fn.disks) (g.D.Disks.view l.disks) l.fn.first l.fn.story l.story None
    × StaysWithin (g.E.Stepping.asked l.fn.engine) (g.E.Stepping.asked l.engine) (g.D.Disks.view l.fn.disks) (g.D.Disks.view l.disks)
    × ((r : Refusal) (p : Point) → IsSoundPoint p → IsAt (g.E.Stepping.stands_for (g.D.Disks.view l.fn.disks) l.fn.engine) l.line l.fn.first p → p.state.units.to_go ≡ [] →
    l.fn.first ≡ Some (Refused r) → IsTrue (g.D.Disks.view l.fn.disks).told → l.disks ≡ l.fn.disks)
    × g.E.Stepping.able (g.D.Disks.view l.disks) l.engine

abbrev pub decreases-loop-base : goal.decreases-loop-base
decreases-loop-base g l = still_left (g.D.Disks.view l.disks).told (g.E.Stepping.turns l.engine) (2 ^ 64 - l.turns)
