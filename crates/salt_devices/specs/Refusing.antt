-- What an opening answers of what it may come upon, where the disks tell.
use Rattle.salt_commit.specs.Stores.{reading}
use Rattle.salt_devices.specs.Leaving.{MayCome, StandsFor}
use Rattle.salt_disk.specs.Disks.{View}
use Rattle.salt_model.specs.Kept.{Kept}
use Rattle.salt_stands.specs.Stands as opening
use Rattle.salt_stands.specs.Stands.{opening_of}
use Rattle.salt_storage.specs.OpenErr.TheVariants.{NotSalt, NumbersSpent, OtherShape}
use Rattle.salt_storage.specs.OpenErr.{OpenErr}
use Rattle.salt_place.specs.declared.placement.Shape.{Shape}
use Rattle.std.specs.Prelude.{Bool, IsTrue, List, ℕ, ⊤, ◌≡◌}

abbrev pub RefusedAs : Shape → (ℕ → List ℕ) → OpenErr → Type 0
RefusedAs shape bytes (NotSalt dev) = opening_of reading bytes shape ≡ opening.NotSalt dev
RefusedAs shape bytes (OtherShape kept asked) = opening_of reading bytes shape ≡ opening.OtherShape kept asked
RefusedAs shape bytes (NumbersSpent boot decisions) = opening_of reading bytes shape ≡ opening.NumbersSpent boot decisions
RefusedAs shape bytes e = ⊤

-- some of what it may come upon is so
pub record ComesUpon (d : View) (started : Bool) (P : (ℕ → List ℕ) → Type 0) : Type 0 where
  pub image : ℕ → List ℕ
  pub comes : MayCome d started image
  pub is : P image

abbrev pub RefusesDevices : View → Bool → Shape → OpenErr → Type 0
RefusesDevices d started shape e = IsTrue d.told → ComesUpon d started (λ image. RefusedAs shape image e)

abbrev pub FindsKept : View → Bool → Shape → Kept → Type 0
FindsKept d started shape k = IsTrue d.told → ComesUpon d started (λ image. StandsFor shape image k)
