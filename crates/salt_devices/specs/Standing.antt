-- How a database stands on its devices: held, left by a call that was broken off, or started.
use Rattle.salt_commit.specs.declared.store.Store.{Store}
use Rattle.salt_devices.specs.Holding.{CanStart, HoldsIn, IsAble}
use Rattle.salt_devices.specs.Leaving.{CanOpen, LeavesAs, MayCome, StandsFor}
use Rattle.salt_devices.specs.Remembering.{Remembers, numbers_known}
use Rattle.salt_disk.specs.Settling.{AreSettled}
use Rattle.salt_devices.specs.declared.pending.Pending.TheVariants.{Nothing}
use Rattle.salt_devices.specs.declared.pending.Pending.{Pending}
use Rattle.salt_disk.specs.Disks.{View}
use Rattle.salt_model.specs.Kept.{Kept}
use Rattle.salt_place.specs.declared.placement.Shape.{Shape}
use Rattle.salt_storage.specs.declared.found.Numbers.{Numbers}
use Rattle.std.specs.Prelude.{Bool, IsTrue, List, None, Option, false, true, ℕ, ◌≡◌}

module _ (shape : Shape) (started : Bool) where
  -- a store is held, and nothing is pending
  pub record StandsHeld (o : Option Store) (p : Pending) (d : View) (k : Kept) : Type 0 where
    pub able : IsAble shape d
    pub called : started ≡ false
    pub nothing : p ≡ Nothing
    pub held : HoldsIn d shape o k

  -- the devices tell, the next opening comes upon the one or the other, and the numbers of both are remembered
  pub record StandsLeft (o : Option Store) (n : Numbers) (p : Pending) (d : View) (a b : Kept) : Type 0 where
    pub told : IsTrue d.told
    pub can : CanStart shape started p d
    pub leaves : LeavesAs started d shape a b
    pub remembers : Remembers (numbers_known o n) p a b

  -- the devices were started, and no store stands in memory
  pub record StandsStarted (o : Option Store) (p : Pending) (d : View) : Type 0 where
    pub able : IsAble shape d
    pub settled : AreSettled d
    pub started_now : started ≡ true
    pub opens : CanOpen p started d shape
    pub closed : o ≡ None

  -- whatever the next opening may come upon stands for this, where the disks tell
  pub record RestsAs (d : View) (k : Kept) : Type 0 where
    pub settled : started ≡ true → AreSettled d
    pub rests : IsTrue d.told → (image : ℕ → List ℕ) → MayCome d started image → StandsFor shape image k
