-- A partition of a store is read.
use Rattle.salt_bytes.specs.Generations.{WhichLog}
use Rattle.salt_commit.proofs.Standing.{stood}
use Rattle.salt_commit.specs.Stores.{IsStore, decided_by}
use Rattle.salt_commit.specs.declared.store.Store.{Store}
use Rattle.salt_decisions.proofs.Framed.{decisions_kept}
use Rattle.salt_decisions.specs.Decisions.{IsDecisions}
use Rattle.salt_disk.specs.Disks.{IsUnchanged, KeepsAll, SameShape, UnlessDown, View}
use Rattle.salt_disk.specs.declared.disks.DiskErr.TheVariants.{Failed, Full, Memory, Stopped}
use Rattle.salt_disk.specs.declared.disks.DiskErr.{DiskErr}
use Rattle.salt_model.specs.Tables.{place, row_at}
use Rattle.salt_paged.proofs.Framed.{partition_kept}
use Rattle.salt_paged.specs.Partitions.{ArePartitions, IsPartition}
use Rattle.salt_paged.specs.declared.partition.Partition.{Partition}
use Rattle.salt_parts.proofs.Lists.{if_some, make_some, set_other, set_same}
use Rattle.salt_stands.proofs.Joined.{row_at_joined}
use Rattle.salt_stands.proofs.PlacedParts.{placed_part}
use Rattle.salt_stands.specs.Commits.{each_tables, found_of, partition_count}
use Rattle.salt_stands.specs.Coordinator.{Coordinator}
use Rattle.salt_stands.specs.Partition.{pages_device, part_device, part_of_key}
use Rattle.salt_stands.specs.Pieces.{PartView, tables_at_part}
use Rattle.salt_stands.specs.Reading.{Reading}
use Rattle.salt_stands.specs.Stands.{logs_of}
use Rattle.salt_values.specs.declared.value.Value.{Value}
use Rattle.std.proofs.Common.{IsTrue, List, None, Option, Some, ap, arith, get_or, inl, inr, length, refl, slice_set, subst, sym, ℕ, ◌+◌, ◌<◌, ◌≡◌, ◌≢◌, ◌⊎◌, ◌∙◌}
use Rattle.std.proofs.lemmas.Bool.{cases_eq}
use Rattle.std.proofs.lemmas.List.{length-set}
use Rattle.std.proofs.lemmas.Option.{slice_get_read}
use Rattle.std.specs.Prelude.{IfSome, slice_get}

module _ {D : Type 0} (r : Reading D) (d : View) (x : Store) (which : WhichLog) (c : Coordinator D) (v : ℕ → PartView) (is : IsStore r d x which c v)
    (p : ℕ) (q : Partition) (within : p < length x.parts) (read : q ≡ get_or x.parts p q) where
  -- the one that was taken at its place
  pub taken : IsPartition d q p (v p) (decided_by c p)
  taken = if_some (slice_get x.parts p) q (λ z. IsPartition d z p (v p) (decided_by c p)) (slice_get_read x.parts (length x.parts) p q refl within read) (is.parts.each p)

  put_back : (e : View) (y : Store) (q' : Partition) → SameShape d e → ((dev : ℕ) → IsUnchanged d e dev) → IsPartition e q' p (v p) (decided_by c p)
      → y.decisions ≡ x.decisions → y.parts ≡ slice_set x.parts p q' → IsStore r e y which c v
  put_back e y q' shape kept own same_log put = record {
    decisions = subst (λ z. IsDecisions e z which c.log) (sym same_log) (decisions_kept d e x.decisions which c.log shape (kept 0) (kept 1) is.decisions);
    size = ap (λ (l : List Partition). length l) put ∙ length-set x.parts p q' ∙ is.size;
    parts = subst (λ (l : List Partition). ArePartitions e l v (decided_by c)) (sym put) (record { each = λ k. at k (cases_eq k p) });
    sound = λ told. is.sound (sym shape.told ∙ told);
  }
    where
      at : (k : ℕ) → (k ≡ p) ⊎ (k ≢ p) → IfSome (slice_get (slice_set x.parts p q') k) (λ z. IsPartition e z k (v k) (decided_by c k))
      at k (inl here) = subst (λ n. IfSome (slice_get (slice_set x.parts p q') n) (λ z. IsPartition e z n (v n) (decided_by c n))) (sym here)
          (subst (λ o. IfSome o (λ z. IsPartition e z p (v p) (decided_by c p))) (sym (set_same x.parts p q' within)) own)
      at k (inr other) = subst (λ o. IfSome o (λ z. IsPartition e z k (v k) (decided_by c k))) (sym (set_other x.parts p k q' other))
          (make_some (slice_get x.parts k) (λ z. IsPartition e z k (v k) (decided_by c k))
          (λ z e'. partition_kept d e z k (v k) (decided_by c k) shape (kept (part_device k)) (kept (part_device k + 1)) (kept (pages_device k)) (if_some (slice_get x.parts k) z (λ w. IsPartition d w k (v k) (decided_by c k)) e' (is.parts.each k))))

  -- the store stands after it was read, unless the disks have failed
  pub stands_after : (e : View) (answer : Option DiskErr) (y : Store) (q' : Partition) → KeepsAll d e answer → UnlessDown answer (IsPartition e q' p (v p) (decided_by c p))
      → y.decisions ≡ x.decisions → y.parts ≡ slice_set x.parts p q' → UnlessDown answer (IsStore r e y which c v)
  stands_after e None y q' keeps own same_log put = put_back e y q' keeps.shape (λ dev. keeps.kept dev (λ none. none)) own same_log put
  stands_after e (Some Failed) y q' keeps own same_log put = tt
  stands_after e (Some Stopped) y q' keeps own same_log put = tt
  stands_after e (Some (Full dev)) y q' keeps own same_log put = put_back e y q' keeps.shape (λ k. keeps.kept k (λ none. none)) own same_log put
  stands_after e (Some Memory) y q' keeps own same_log put = put_back e y q' keeps.shape (λ dev. keeps.kept dev (λ none. none)) own same_log put

-- A STORE whose partitions stand after they were read
pub store_after_reads : {D : Type 0} (r : Reading D) (d e : View) (x y : Store) (which : WhichLog) (c : Coordinator D) (v : ℕ → PartView) (answer : Option DiskErr) → IsStore r d x which c v → KeepsAll d e answer
    → y.decisions ≡ x.decisions → length y.parts ≡ length x.parts → UnlessDown answer (ArePartitions e y.parts v (decided_by c)) → UnlessDown answer (IsStore r e y which c v)
store_after_reads r d e x y which c v answer is keeps same size are = by answer keeps are
  where
    go : SameShape d e → ((dev : ℕ) → IsUnchanged d e dev) → ArePartitions e y.parts v (decided_by c) → IsStore r e y which c v
    go shape kept h = record {
      decisions = subst (λ z. IsDecisions e z which c.log) (sym same) (decisions_kept d e x.decisions which c.log shape (kept 0) (kept 1) is.decisions);
      size = size ∙ is.size;
      parts = h;
      sound = λ told. is.sound (sym shape.told ∙ told);
    }

    by : (o : Option DiskErr) → KeepsAll d e o → UnlessDown o (ArePartitions e y.parts v (decided_by c)) → UnlessDown o (IsStore r e y which c v)
    by None k h = go k.shape (λ dev. k.kept dev (λ none. none)) h
    by (Some Failed) k h = tt
    by (Some Stopped) k h = tt
    by (Some (Full dev)) k h = go k.shape (λ n. k.kept n (λ none. none)) h
    by (Some Memory) k h = go k.shape (λ dev. k.kept dev (λ none. none)) h

-- A ROW OF ALL TABLES is the one of its partition
pub row_of_all : {D : Type 0} (r : Reading D) (d : View) (x : Store) (which : WhichLog) (c : Coordinator D) (v : ℕ → PartView) → IsStore r d x which c v → IsTrue d.told
    → (table : ℕ) (key : Value) → part_of_key c.log.header.shape key < partition_count c → row_at (place table key) (found_of c v).kept.tables ≡ row_at (place table key) (tables_at_part c (part_of_key c.log.header.shape key) (v (part_of_key c.log.header.shape key)))
row_of_all r d x which c v is told table key low =
    row_at_joined c.log.header.shape (each_tables c v) (place table key) 0 (partition_count c)
    (λ k below. placed_part r c (logs_of d.bytes) d.bytes k (v k) ((stood r d x which c v is told).part k (omega (arith, below)))) (omega arith) (omega (arith, low))
