-- One of several partitions is asked, and stands in its place again.
use Rattle.salt_disk.specs.Disks.{IsUnchanged, KeepsAll, SameShape, UnlessDown, View}
use Rattle.salt_disk.specs.declared.disks.DiskErr.TheVariants.{Failed, Full, Memory, Stopped}
use Rattle.salt_disk.specs.declared.disks.DiskErr.{DiskErr}
use Rattle.salt_paged.proofs.Framed.{partition_kept}
use Rattle.salt_paged.specs.Partitions.{ArePartitions, IsPartition}
use Rattle.salt_paged.specs.declared.partition.Partition.{Partition}
use Rattle.salt_parts.proofs.Lists.{if_some, make_some, set_other, set_same}
use Rattle.salt_stands.specs.Partition.{pages_device, part_device}
use Rattle.salt_stands.specs.Pieces.{PartView}
use Rattle.salt_values.specs.declared.id.Id.{Id}
use Rattle.std.proofs.Common.{List, None, Option, Some, get_or, inl, inr, length, refl, slice_set, subst, sym, ℕ, ◌+◌, ◌<◌, ◌≡◌, ◌≢◌, ◌⊎◌}
use Rattle.std.proofs.lemmas.Bool.{cases_eq}
use Rattle.std.proofs.lemmas.Option.{slice_get_read}
use Rattle.std.specs.Prelude.{IfSome, slice_get}

module _ (d : View) (parts : List Partition) (n : ℕ) (within : n < length parts) (v : ℕ → PartView) (applied : ℕ → List Id) (are : ArePartitions d parts v applied) where
  module _ (e : View) (x : Partition) where
    back : SameShape d e → ((dev : ℕ) → IsUnchanged d e dev) → IsPartition e x n (v n) (applied n) → ArePartitions e (slice_set parts n x) v applied
    back shape kept own = record { each = λ p. at p (cases_eq p n) }
      where
        at : (p : ℕ) → (p ≡ n) ⊎ (p ≢ n) → IfSome (slice_get (slice_set parts n x) p) (λ z. IsPartition e z p (v p) (applied p))
        at p (inl here) = subst (λ k. IfSome (slice_get (slice_set parts n x) k) (λ z. IsPartition e z k (v k) (applied k))) (sym here)
            (subst (λ o. IfSome o (λ z. IsPartition e z n (v n) (applied n))) (sym (set_same parts n x within)) own)
        at p (inr other) = subst (λ o. IfSome o (λ z. IsPartition e z p (v p) (applied p))) (sym (set_other parts n p x other))
            (make_some (slice_get parts p) (λ z. IsPartition e z p (v p) (applied p))
            (λ z is. partition_kept d e z p (v p) (applied p) shape (kept (part_device p)) (kept (part_device p + 1)) (kept (pages_device p)) (if_some (slice_get parts p) z (λ w. IsPartition d w p (v p) (applied p)) is (are.each p))))

    -- all stand, unless the disks are down
    pub put_back : (answer : Option DiskErr) → KeepsAll d e answer → UnlessDown answer (IsPartition e x n (v n) (applied n)) → UnlessDown answer (ArePartitions e (slice_set parts n x) v applied)
    put_back None keeps own = back keeps.shape (λ dev. keeps.kept dev (λ none. none)) own
    put_back (Some Failed) keeps own = tt
    put_back (Some Stopped) keeps own = tt
    put_back (Some (Full dev)) keeps own = back keeps.shape (λ k. keeps.kept k (λ none. none)) own
    put_back (Some Memory) keeps own = back keeps.shape (λ dev. keeps.kept dev (λ none. none)) own

-- the one that was read at a place
pub one_there : (d : View) (parts : List Partition) (n : ℕ) (x : Partition) → n < length parts → x ≡ get_or parts n x → (v : ℕ → PartView) (applied : ℕ → List Id) → ArePartitions d parts v applied → IsPartition d x n (v n) (applied n)
one_there d parts n x within read v applied are = if_some (slice_get parts n) x (λ y. IsPartition d y n (v n) (applied n)) (slice_get_read parts (length parts) n x refl within read) (are.each n)
