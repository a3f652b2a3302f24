-- What a storage is asked for, and where a call on it may write.
use Rattle.salt_disk.specs.Disks.{SameShape, Shrinks, View}
use Rattle.salt_place.specs.declared.placement.Shape.{Shape}
use Rattle.std.specs.Prelude.{Bool, IsTrue, ℕ, ◌*◌, ◌+◌, ◌<◌, ◌≡◌, ◌≤◌}

-- a shape of its devices, and whether commits go over messages
pub record Setup : Type 0 where
  pub shape : Shape
  pub over_net : Bool

-- the device is past those of the shape: two of the coordinator, and of each part two logs and its pages
abbrev pub IsBeyond : Shape → ℕ → Type 0
IsBeyond shape dev = 2 + 3 * shape.parts ≤ dev

-- What is asked for stays, and so does each device past those of its shape: what a stop may leave there, it may have left before.
pub record StaysWithin (was is : Setup) (old new : View) : Type 0 where
  pub asked : is ≡ was
  pub shape : SameShape old new
  pub others : IsTrue old.told → (dev : ℕ) → dev < old.count → IsBeyond was.shape dev → Shrinks old new dev
