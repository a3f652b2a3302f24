-- What is told of a full device by the shape of a store, is told by the shape that it is held in.
use Rattle.salt_commit.specs.Stores.{shape_of_store}
use Rattle.salt_commit.specs.declared.store.Store.{Store}
use Rattle.salt_devices.specs.Holding.{IsHeld}
use Rattle.salt_disk.specs.Disks.{FullWhere, View}
use Rattle.salt_disk.specs.declared.disks.DiskErr.TheVariants.{Full}
use Rattle.salt_disk.specs.declared.disks.DiskErr.{DiskErr}
use Rattle.salt_model.specs.Kept.{Kept}
use Rattle.salt_place.specs.declared.placement.Shape.{Shape}
use Rattle.std.proofs.Common.{Some, subst, ℕ, ◌≡◌, ◌∙◌}

pub filled : (d : View) (shape : Shape) (x : Store) (k : Kept) → IsHeld d shape x k → (Fills : Shape → ℕ → Type 0) (error : DiskErr) (dev : ℕ) → error ≡ Full dev → FullWhere (Fills (shape_of_store x)) (Some error) → Fills shape dev
filled d shape x k h Fills error dev is full =
    subst (λ (s : Shape). Fills s dev) (h.is.decisions.holds.shape ∙ h.newest.has_shape) (subst (λ (z : DiskErr). FullWhere (Fills (shape_of_store x)) (Some z)) is full)
