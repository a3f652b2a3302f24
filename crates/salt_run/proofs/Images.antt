-- What a stop may leave of the devices of a database.
use Rattle.salt_devices.proofs.Stores.{held_image}
use Rattle.salt_devices.specs.Holding.{HoldsIn}
use Rattle.salt_devices.specs.Leaving.{MayCome, StandsFor}
use Rattle.salt_disk.specs.Settling.{AreSettled}
use Rattle.salt_devices.specs.Standing.{RestsAs, StandsHeld, StandsLeft}
use Rattle.salt_devices.specs.declared.pending.Pending.{Pending}
use Rattle.salt_commit.specs.declared.store.Store.{Store}
use Rattle.salt_disk.specs.Disks.{IsImage, View}
use Rattle.salt_engine.specs.Standing.{LeavesOnDevices}
use Rattle.salt_engine.specs.Stored.{IsLeft}
use Rattle.law_states.specs.Points.{Point}
use Rattle.salt_model.specs.Kept.{Kept}
use Rattle.salt_storage.specs.declared.found.Numbers.{Numbers}
use Rattle.salt_place.specs.declared.placement.Shape.{Shape}
use Rattle.std.proofs.Common.{inl, inr}
use Rattle.std.specs.Prelude.{Bool, IsTrue, List, None, Option, Some, false, refl, true, ℕ, ◌≡◌}

-- an image stands for something that is left at a point
pub record StandsAt (shape : Shape) (doubt : Type 0) (room : ℕ) (p : Point) (image : ℕ → List ℕ) : Type 0 where
  pub found : Kept
  pub stands : StandsFor shape image found
  pub left : IsLeft doubt room p found

-- what a stop leaves may be come upon
pub may-come : (d : View) (started : Bool) → (started ≡ true → AreSettled d) → (image : ℕ → List ℕ) → IsImage d image → MayCome d started image
may-come d true settled image left = λ dev low. (settled refl).each dev low (image dev) (left dev low)
may-come d false settled image left = left

module _ (shape : Shape) (started : Bool) (o : Option Store) (n : Numbers) (q : Pending) (d : View)
    (told : IsTrue d.told) (doubt : Type 0) (room : ℕ) (p : Point) (image : ℕ → List ℕ) (left : IsImage d image) where
  either : (a b : Kept) → StandsLeft shape started o n q d a b → IsLeft doubt room p a → IsLeft doubt room p b → StandsAt shape doubt room p image
  either a b h first second =
      elim (h.leaves told image (may-come d started h.can.settled image left)).stands [
        | inl s ↦ record { found = a; stands = s; left = first }
        | inr s ↦ record { found = b; stands = s; left = second }
      ]

  in-one : (o : Option Store) (k : Kept) → HoldsIn d shape o k → StandsFor shape image k
  in-one (Some x) k h = held_image d shape x k h image left
  in-one None k h = absurd h

  held : (k : Kept) → StandsHeld shape started o q d k → IsLeft doubt room p k → StandsAt shape doubt room p image
  held k h here = record { found = k; stands = in-one o k h.held; left = here }

  abbrev LeftHere : Option Numbers → Type 0
  LeftHere found = LeavesOnDevices (StandsHeld shape started o q d) (StandsLeft shape started o n q d) doubt found room p

  pub stands-left : (found : Option Numbers) → LeftHere found → StandsAt shape doubt room p image
  stands-left (Some numbers) h = held h.0 h.1 h.2
  stands-left None h = either h.0 h.1 h.2 h.3 h.4

-- and for what rests there
pub stands-alone : (shape : Shape) (started : Bool) (d : View) (k : Kept) → RestsAs shape started d k → IsTrue d.told → (image : ℕ → List ℕ) → IsImage d image → StandsFor shape image k
stands-alone shape started d k rests told image left = rests.rests told image (may-come d started rests.settled image left)
