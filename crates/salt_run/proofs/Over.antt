-- A run over what was found, as it ends on its devices.
use Rattle.salt_books.specs.declared.books.Books.{Books}
use Rattle.salt_commit.specs.declared.store.Store.{Store}
use Rattle.salt_devices.specs.Filling.{FillsIn}
use Rattle.salt_devices.specs.Standing.{RestsAs, StandsHeld, StandsLeft}
use Rattle.salt_devices.specs.declared.pending.Pending.{Pending}
use Rattle.salt_disk.specs.Disks.{IsImage, View}
use Rattle.salt_engine.specs.Flights.{flight_of}
use Rattle.salt_engine.specs.Standing.{LeavesOnDevices, left_on_devices}
use Rattle.salt_engine.specs.Stored.{IsAlone}
use Rattle.salt_engine.specs.declared.flights.InFlight.{InFlight}
use Rattle.law_states.specs.Points.{Point}
use Rattle.salt_model.specs.Played.{IsPlayed}
use Rattle.salt_model.specs.Trace.{Trace}
use Rattle.salt_promise.specs.Ending.{AreSpentBehind, IsInDoubt}
use Rattle.salt_promise.specs.declared.status.Status.{Status}
use Rattle.salt_promise.specs.declared.status.Status.TheVariants.{DeviceFull, NumbersSpent}
use Rattle.salt_run.proofs.Behind.{is-behind}
use Rattle.salt_run.proofs.Images.{StandsAt, stands-alone, stands-left}
use Rattle.salt_run.specs.Ending.{EndsBehind, IsFullBehind, StandsBehind, flight_at}
use Rattle.salt_loop.specs.Ending.{EndsFound, MayEndAt}
use Rattle.salt_loop.specs.Stopping.{numbers_of_status}
use Rattle.salt_storage.specs.declared.found.Numbers.{Numbers}
use Rattle.salt_place.specs.declared.placement.Shape.{Shape}
use Rattle.std.proofs.Common.{subst, sym, ◌∙◌}
use Rattle.std.specs.Prelude.{Bool, IsSome, IsTrue, List, None, Option, Some, ℕ, ⊤, ◌≡◌}

-- what is in flight is told, and so in doubt
in-doubt : (status : Status) (i : Option InFlight) → IsSome i → IsInDoubt status (flight_of i)
in-doubt (NumbersSpent boot decisions) i h = tt
in-doubt status (Some f) h = tt
in-doubt status None h = absurd (cc h)

module _ (shape : Shape) (started : Bool) (o : Option Store) (n : Numbers) (q : Pending) (d : View)
    (found : Option Numbers) (books : Option Books) (single : Bool) (i : Option InFlight) (status : Status) (trace : Trace) (played : IsPlayed trace) where
  abbrev LeftAt : Option Numbers → ℕ → Point → Type 0
  LeftAt numbers room p = LeavesOnDevices (StandsHeld shape started o q d) (StandsLeft shape started o n q d) (IsSome i) found room p × IsAlone (RestsAs shape started d) numbers room p

  module _ (x : EndsFound (left_on_devices (StandsHeld shape started o q d) (StandsLeft shape started o n q d) (RestsAs shape started d) (FillsIn d shape) d.can_stop found books single i) status trace) where
    images : IsTrue d.told → (image : ℕ → List ℕ) → IsImage d image → StandsBehind shape status (flight_at status (flight_of i)) trace image
    images told image is = by status x.stands
      where
        by : (t : Status) → LeftAt (numbers_of_status t) x.room x.point → StandsBehind shape t (flight_at t (flight_of i)) trace image
        by (NumbersSpent boot decisions) h = record {
          found = h.1.kept;
          stands = stands-alone shape started d h.1.kept h.1.resting told image is;
          is = is-behind trace played x.point x.keeps ⊤ ⊤ (λ v. v) x.room h.1.kept x.boots h.1.left;
          numbers = (sym h.1.boot_is, sym h.1.decisions_are);
        }
        by t h =
            let s : StandsAt shape (IsSome i) x.room x.point image = stands-left shape started o n q d told (IsSome i) x.room x.point image is found h.0 in
            record { found = s.found; stands = s.stands; is = is-behind trace played x.point x.keeps (IsSome i) (IsInDoubt t (flight_of i)) (in-doubt t i) x.room s.found x.boots s.left; numbers = tt }

    spent : (boot decisions : ℕ) → status ≡ NumbersSpent boot decisions → AreSpentBehind trace boot decisions
    spent boot decisions is =
        let m : MayEndAt x.room x.point (NumbersSpent boot decisions) = subst (MayEndAt x.room x.point) is x.may in
        let h : LeftAt (numbers_of_status (NumbersSpent boot decisions)) x.room x.point = subst (λ (t : Status). LeftAt (numbers_of_status t) x.room x.point) is x.stands in
        record {
          down = x.keeps.state.units.phase ∙ m.0;
          spent = m.1.spent;
          kept = h.1.kept;
          is = is-behind trace played x.point x.keeps ⊤ ⊤ (λ v. v) x.room h.1.kept x.boots h.1.left;
          boot_is = sym h.1.boot_is;
          decisions_are = sym h.1.decisions_are;
        }

    full : (dev : ℕ) → status ≡ DeviceFull dev → IsTrue d.told → IsFullBehind d shape trace dev
    full dev is told = let f = x.full dev is in record { point = x.point; keeps = x.keeps; next = f.0; writes = f.1; fills = f.2 told }

    pub ends-behind : EndsBehind d shape status (flight_at status (flight_of i)) trace
    ends-behind = record { images = images; spent = spent; full = full }
