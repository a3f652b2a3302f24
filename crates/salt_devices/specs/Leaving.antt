-- What an opening may come upon, and what a stop may leave there.
use Rattle.salt_bytes.specs.Generations.{BothBlank}
use Rattle.salt_commit.specs.Stores.{reading}
use Rattle.salt_stands.specs.Fitting.{kept_in}
use Rattle.salt_devices.specs.declared.pending.Pending.TheVariants.{Opening}
use Rattle.salt_devices.specs.declared.pending.Pending.{Pending}
use Rattle.salt_disk.specs.Disks.{IsImage, View}
use Rattle.salt_model.specs.Kept.{Definition, Kept}
use Rattle.salt_stands.specs.Coordinator.{coordinator_pair}
use Rattle.salt_stands.specs.Stands.{Found, stands_on, logs_of}
use Rattle.salt_place.specs.declared.placement.Shape.{Shape}
use Rattle.std.specs.Prelude.{Bool, IsTrue, List, Ok, false, true, ℕ, ◌<◌, ◌≡◌, ◌⊎◌}

-- the devices stand for what is kept, in this shape and whatever format
pub record StandsFor (shape : Shape) (image : ℕ → List ℕ) (k : Kept) : Type 0 where
  pub found : Found Definition
  pub is : stands_on reading image shape ≡ Ok found
  pub has_shape : found.shape ≡ shape
  pub keeps : kept_in found ≡ k

-- the image stands for whatever the bytes stand for
abbrev pub StandsStill : Shape → (bytes image : ℕ → List ℕ) → Type 0
StandsStill shape bytes image = (k : Kept) → StandsFor shape bytes k → StandsFor shape image k

-- What the next opening may come upon: what the devices hold, where they were started and nothing was called since; else what a
-- stop may leave of them.
abbrev pub MayCome : View → (started : Bool) → (ℕ → List ℕ) → Type 0
MayCome d true image = (dev : ℕ) → dev < d.count → image dev ≡ d.bytes dev
MayCome d false image = IsImage d image

-- a coordinator's log was begun there, and the devices stand for the one or the other
pub record IsEither (shape : Shape) (image : ℕ → List ℕ) (a b : Kept) : Type 0 where
  pub begun : ¬ (coordinator_pair (logs_of image) ≡ BothBlank)
  pub stands : StandsFor shape image a ⊎ StandsFor shape image b

-- it is so of what the next opening may come upon, where the disks tell
abbrev pub LeavesAs : Bool → View → Shape → Kept → Kept → Type 0
LeavesAs started d shape a b = IsTrue d.told → (image : ℕ → List ℕ) → MayCome d started image → IsEither shape image a b

-- of devices on which something was called
abbrev pub LeavesEither : View → Shape → Kept → Kept → Type 0
LeavesEither = LeavesAs false

-- the image stands for something, in this shape
abbrev pub StandsForSomething : Shape → (ℕ → List ℕ) → Type 0
StandsForSomething shape image = (k : Kept) × StandsFor shape image k

-- and so does what the next opening may come upon, where a first one was broken off by a stop
abbrev pub CanOpen : Pending → (started : Bool) → View → Shape → Type 0
CanOpen p started d shape = p ≡ Opening → IsTrue d.told → (image : ℕ → List ℕ) → MayCome d started image → StandsForSomething shape image
