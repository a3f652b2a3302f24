-- Where a call on the devices of a shape may write: on no other device.
use Rattle.salt_commit.specs.Stores.{IsStoreDevice, shape_of_store}
use Rattle.salt_commit.specs.declared.store.Store.{Store}
use Rattle.salt_devices.proofs.Stores.{standing_shape}
use Rattle.salt_devices.specs.Holding.{IsStanding}
use Rattle.salt_disk.proofs.CallAfterCall.{same_shape, shape_goes_on}
use Rattle.salt_disk.specs.Disks.{AreUnchanged, IsRestarted, KeepsAll, KeepsBut, View}
use Rattle.salt_disk.specs.declared.disks.DiskErr.{DiskErr}
use Rattle.salt_stands.specs.LogDevices.{IsPartitionLog}
use Rattle.salt_storage.specs.Staying.{IsBeyond, Setup, StaysWithin}
use Rattle.salt_place.specs.declared.placement.Shape.{Shape}
use Rattle.std.proofs.Common.{Option, arith, inl, inr, refl, subst, sym, ℕ}

pub nothing_within : (d : View) (setup : Setup) → StaysWithin setup setup d d
nothing_within d setup = record { asked = refl; shape = same_shape d; others = λ told dev low past image left. left }

-- a device past those of the shape is none of the store
not_beyond : (shape : Shape) (dev : ℕ) → IsBeyond shape dev → IsStoreDevice shape.parts dev → ⊥
not_beyond shape dev past (inl (inl (inl is))) = omega (arith, past, is)
not_beyond shape dev past (inl (inl (inr is))) = omega (arith, past, is)
not_beyond shape dev past (inl (inr t)) = by t.is
  where
    by : IsPartitionLog t.p dev → ⊥
    by (inl is) = omega (arith, past, t.low, is)
    by (inr is) = omega (arith, past, t.low, is)
not_beyond shape dev past (inr t) = omega (arith, past, t.low, t.is)

module _ (d e : View) (setup : Setup) where
  -- a call that writes logs and pages of the store
  pub store_within : (answer : Option DiskErr) → KeepsBut (IsStoreDevice setup.shape.parts) d e answer → StaysWithin setup setup d e
  store_within answer keeps = record { asked = refl; shape = keeps.shape; others = λ told dev low past. keeps.images dev (not_beyond setup.shape dev past) }

  -- or nothing
  pub kept_within : (answer : Option DiskErr) → KeepsAll d e answer → StaysWithin setup setup d e
  kept_within answer keeps = record { asked = refl; shape = keeps.shape; others = λ told dev low past. keeps.images dev (λ none. none) }

  pub unchanged_within : AreUnchanged d e → StaysWithin setup setup d e
  unchanged_within same = record { asked = refl; shape = same.shape; others = λ told dev low past. (same.each dev).images }

  pub restarted_within : IsRestarted d e → StaysWithin setup setup d e
  restarted_within again = record {
    asked = refl;
    shape = again.shape;
    others = λ told dev low past image left. subst (d.image dev) (sym (again.settled dev low image left)) (again.one_of told dev low);
  }

  pub within_on : (f : View) (answer : Option DiskErr) → StaysWithin setup setup d e → KeepsAll e f answer → StaysWithin setup setup d f
  within_on f answer within keeps = record {
    asked = refl;
    shape = shape_goes_on d e f within.shape keeps.shape;
    others = λ told dev low past image left. within.others told dev low past image (keeps.images dev (λ none. none) image left);
  }

-- A STORE that stands: a call that writes its devices alone
pub stood_within : (d e : View) (setup : Setup) (x : Store) → IsStanding d setup.shape x → (answer : Option DiskErr) → KeepsBut (IsStoreDevice (shape_of_store x).parts) d e answer → StaysWithin setup setup d e
stood_within d e setup x s answer keeps = store_within d e setup answer (subst (λ (z : Shape). KeepsBut (IsStoreDevice z.parts) d e answer) (standing_shape d setup.shape x s) keeps)
