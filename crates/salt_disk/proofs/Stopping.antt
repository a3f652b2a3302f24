-- Why disks in memory answer that they have stopped.
use Rattle.salt_disk.specs.Devices.{pair_of}
use Rattle.salt_disk.specs.Disks.{HasCause, HaveCome}
use Rattle.salt_disk.specs.MemDisks.{due_pick, seen}
use Rattle.salt_disk.specs.Plans.{Plan, counted, later_stops, plan_of, without_first}
use Rattle.salt_disk.specs.declared.disks.DiskErr.TheVariants.{Stopped}
use Rattle.salt_disk.specs.declared.memory.MemDisks.{MemDisks}
use Rattle.salt_disk.specs.declared.memory.Stop.{Stop}
use Rattle.std.proofs.Common.{List, Some, [], ap, arith, map, refl, subst, sym, ℕ, ◌≡◌, ◌∙◌, ◌∷◌}

-- the first one comes, and it is there, since it is due
first_comes : (stops : List Stop) (since pick : ℕ) → due_pick stops since ≡ Some pick → HaveCome 1 (map pair_of stops) (map pair_of (later_stops stops))
first_comes [] since pick due = absurd (cc)
first_comes (stop ∷ stops) since pick due = record { come = pair_of stop ∷ []; many = refl; is = refl }

-- the call is counted, and then the stop comes
pub stop_cause : (old mid new : MemDisks) (pick : ℕ) → due_pick old.stops.items old.since_first ≡ Some pick → plan_of mid ≡ counted (plan_of old) → plan_of new ≡ without_first (plan_of mid)
    → HasCause (seen old) (seen new) (Some Stopped)
stop_cause old mid new pick due call stop =
    let left = ap (λ (p : Plan). p.stops) stop ∙ ap (λ (p : Plan). later_stops p.stops) call in
    record {
      later = omega (arith, ap (λ (p : Plan). p.faults) stop, ap (λ (p : Plan). p.faults) call);
      failed = λ is. cc;
      stops = subst (λ (stops : List Stop). HaveCome 1 (map pair_of old.stops.items) (map pair_of stops)) (sym left) (first_comes old.stops.items old.since_first pick due);
    }
