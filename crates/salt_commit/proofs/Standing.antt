-- A store stands on its devices, and goes on with one entry more in the coordinator's log.
use Rattle.salt_bytes.specs.Coordinator.{Boots, Defines, NumberedText, entry_in}
use Rattle.salt_bytes.specs.Generations.{LogA, LogB, WhichLog}
use Rattle.salt_bytes.specs.Log.{entries_in}
use Rattle.salt_checkpoint.proofs.Named.{named_reads}
use Rattle.salt_commit.specs.Stores.{IsSound, IsStore, StandForEither, decided_by}
use Rattle.salt_commit.specs.declared.store.Store.{Store}
use Rattle.salt_decisions.proofs.Contents.{log_bytes}
use Rattle.salt_decisions.specs.Decisions.{HasMore, IsBeforeOrWith, IsDecisions, device_in}
use Rattle.salt_disk.proofs.CallAfterCall.{same_shape}
use Rattle.salt_disk.specs.Disks.{EachImage, IsImage, IsSettled, IsUnchanged, KeepsOthers, SameShape, View}
use Rattle.salt_disk.specs.declared.disks.DiskErr.{DiskErr}
use Rattle.salt_paged.proofs.Framed.{logs_settled, part_stands, partition_kept}
use Rattle.salt_paged.specs.Partitions.{ArePartitions, IsPartition}
use Rattle.salt_paged.specs.declared.partition.Partition.{Partition}
use Rattle.salt_parts.proofs.Lists.{if_some, make_some, some_at}
use Rattle.salt_stands.proofs.PlacedParts.{rows_sound}
use Rattle.salt_stands.proofs.Stores.{boot_stood, definition_stood, keeps_standing, stood_stands}
use Rattle.salt_stands.specs.Commits.{CoordinatorSame, PagesSame, PartSame, Stood, found_of, partition_count}
use Rattle.salt_stands.specs.Coordinator.{Coordinator, Logs, device_of}
use Rattle.salt_stands.specs.Partition.{pages_device, part_device}
use Rattle.salt_stands.specs.Pieces.{StaysFitting, HasOneMore, IsSameAt, PartView, other_log, with_boot, with_definition}
use Rattle.salt_stands.specs.Reading.{Reading}
use Rattle.salt_stands.specs.Stands.{stands_on, logs_of}
use Rattle.salt_values.specs.declared.id.Id.{Id}
use Rattle.salt_place.specs.declared.placement.Shape.{Shape}
use Rattle.std.proofs.Common.{IsTrue, List, None, Ok, Option, Some, [], ap, arith, inl, inr, refl, subst, sym, ℕ, ◌*◌, ◌+◌, ◌++◌, ◌<◌, ◌≡◌, ◌≢◌, ◌⊎◌, ◌∙◌, ◌∷◌, slice_get, length}
use Rattle.std.proofs.lemmas.Bool.Decides.{Decides-eqb}
use Rattle.std.specs.Prelude.{Bool, IfSome, false, if◌then◌else◌, true, ◌==◌}

-- the one at a place stands there
pub part_at : (d : View) (parts : List Partition) (v : ℕ → PartView) (applied : ℕ → List Id) → ArePartitions d parts v applied → (p : ℕ) → p < length parts
    → (x : Partition) × IsPartition d x p (v p) (applied p)
part_at d parts v applied are p low =
    let found = some_at parts p low in
    (found.0, if_some (slice_get parts p) found.0 (λ x. IsPartition d x p (v p) (applied p)) found.1 (are.each p))

-- partitions are as they were where their devices are
pub partitions_kept : (d e : View) (parts : List Partition) (v : ℕ → PartView) (applied : ℕ → List Id) → SameShape d e
    → ((p : ℕ) → IsUnchanged d e (part_device p)) → ((p : ℕ) → IsUnchanged d e (part_device p + 1)) → ((p : ℕ) → IsUnchanged d e (pages_device p)) → ArePartitions d parts v applied → ArePartitions e parts v applied
partitions_kept d e parts v applied shape first second pages are = record {
  each = λ p. make_some (slice_get parts p) (λ x. IsPartition e x p (v p) (applied p))
      (λ x is. partition_kept d e x p (v p) (applied p) shape (first p) (second p) (pages p) (if_some (slice_get parts p) x (λ y. IsPartition d y p (v p) (applied p)) is (are.each p)));
}

pub apart_from_part : (which : WhichLog) (p k : ℕ) → 2 + 3 * p + k ≢ device_of 0 which
apart_from_part LogA p k e = omega (arith, e)
apart_from_part LogB p k e = omega (arith, e)

pub apart_from_other : (which : WhichLog) → device_of 0 (other_log which) ≢ device_of 0 which
apart_from_other LogA e = omega (arith, e)
apart_from_other LogB e = omega (arith, e)

other_below : (which : WhichLog) (n : ℕ) → 1 < n → device_of 0 (other_log which) < n
other_below LogA n h = h
other_below LogB n h = omega (arith, h)

-- logs, of which one has these entries
pub pushed : Logs → ℕ → List (List ℕ) → Logs
pushed logs dev es k = if k == dev then Some es else logs k

pub pushed_here : (logs : Logs) (dev : ℕ) (es : List (List ℕ)) → pushed logs dev es dev ≡ Some es
unfolding pushed
pushed_here logs dev es = ap (λ b. if b then Some es else logs dev) ((Decides-eqb dev dev).1 refl)

pub pushed_there : (logs : Logs) (dev : ℕ) (es : List (List ℕ)) (k : ℕ) → k ≢ dev → pushed logs dev es k ≡ logs k
unfolding pushed
pushed_there logs dev es k apart = ap (λ b. if b then Some es else logs k) (no (k == dev) refl)
  where
    no : (b : Bool) → (k == dev) ≡ b → b ≡ false
    no true e = absurd (apart ((Decides-eqb k dev).0 e))
    no false e = refl

-- all logs but the coordinator's that counts are as they were
pub record KeepsOtherLogs (which : WhichLog) (n : ℕ) (old new : ℕ → List ℕ) : Type 0 where
  pub other : new (device_of 0 (other_log which)) ≡ old (device_of 0 (other_log which))
  pub part_a : (p : ℕ) → p < n → new (part_device p) ≡ old (part_device p)
  pub part_b : (p : ℕ) → p < n → new (part_device p + 1) ≡ old (part_device p + 1)

module _ {D : Type 0} (r : Reading D) (d : View) (x : Store) (which : WhichLog) (c : Coordinator D) (v : ℕ → PartView) (is : IsStore r d x which c v) where
  within : (p : ℕ) → p < partition_count c → p < length x.parts
  within p low = omega (arith, low, is.size)

  partition : (p : ℕ) → p < partition_count c → (q : Partition) × IsPartition d q p (v p) (decided_by c p)
  partition p low = part_at d x.parts v (decided_by c) is.parts p (within p low)

  -- IT STANDS ON THE DEVICES, where they tell their bytes
  pub stood : IsTrue d.told → Stood r (logs_of d.bytes) d.bytes which c v
  stood told = record {
    coordinator = record { counts = is.decisions.counting.counts told; is = (is.sound told).coordinator };
    part = λ p low. let q = partition p low in part_stands r c d q.0 p (v p) (decided_by c p) q.1 told ((is.sound told).part p low) ((is.sound told).rows p low);
  }

  -- the pages that are named are read as before, in each image
  pub pages_same : IsTrue d.told → (new : ℕ → List ℕ) → ((p : ℕ) → p < partition_count c → d.image (pages_device p) (new (pages_device p))) → PagesSame c v d.bytes new
  pages_same told new left p low =
      let dev = pages_device p in
      named_reads (v p) (d.bytes dev) (new dev) (((partition p low).1.told told).settled (new dev) (left p low))

  -- WHERE ONLY THE COORDINATOR'S LOG IS WRITTEN
  module _ (told : IsTrue d.told) (new : ℕ → List ℕ) (pages_left : (p : ℕ) → p < partition_count c → d.image (pages_device p) (new (pages_device p))) (keeps : KeepsOtherLogs which (partition_count c) d.bytes new) where
    pub parts_same : (p : ℕ) → p < partition_count c → PartSame (logs_of d.bytes) (logs_of new) p
    parts_same p low = record { a = ap entries_in (keeps.part_a p low); b = ap entries_in (keeps.part_b p low) }

    other_same : IsSameAt (device_of 0 (other_log which)) (logs_of d.bytes) (logs_of new)
    other_same = ap entries_in keeps.other

    both_same : (w : WhichLog) → IsSameAt (device_of 0 w) (logs_of d.bytes) (logs_of new) → IsSameAt (device_of 0 (other_log w)) (logs_of d.bytes) (logs_of new) → CoordinatorSame (logs_of d.bytes) (logs_of new)
    both_same LogA a b = record { a = a; b = b }
    both_same LogB a b = record { a = b; b = a }

    -- without the entry it stands as before
    pub without : entries_in (new (device_of 0 which)) ≡ entries_in (d.bytes (device_of 0 which)) → Stood r (logs_of new) new which c v
    without same = keeps_standing r (logs_of d.bytes) (logs_of new) d.bytes new which c v (stood told) (inl (both_same which same other_same)) (λ p low. inl (parts_same p low)) (pages_same told new pages_left)

    -- with it, as the entry makes it
    pub with_entry : (payload : List ℕ) (c' : Coordinator D) → PagesSame c' v d.bytes new
        → ((logs : Logs) → HasOneMore (logs_of d.bytes) logs (device_of 0 which) payload → IsSameAt (device_of 0 (other_log which)) (logs_of d.bytes) logs → ((p : ℕ) → p < partition_count c → PartSame (logs_of d.bytes) logs p) → Stood r logs d.bytes which c' v)
        → HasMore (d.bytes (device_of 0 which)) (new (device_of 0 which)) payload → Stood r (logs_of new) new which c' v
    with_entry payload c' pages makes more =
        keeps_standing r (logs_of new) (logs_of new) d.bytes new which c' v
        (makes (logs_of new) (record { entries = more.entries; before = more.was; after = more.now }) other_same parts_same)
        (inl (record { a = refl; b = refl })) (λ p low. inl (record { a = refl; b = refl })) pages

  -- EACH IMAGE after a call that writes the coordinator's log alone
  module _ (e : View) (answer : Option DiskErr) (keeps : KeepsOthers (device_in x.decisions) d e answer) (told : IsTrue d.told) where
    settled_there : (image : ℕ → List ℕ) → IsImage e image → (dev : ℕ) → dev < d.count → dev ≢ device_of 0 which → IsSettled d dev → image dev ≡ d.bytes dev
    settled_there image left dev low apart settled = settled (image dev) (keeps.images dev (λ same. apart (same ∙ is.decisions.counting.device)) (image dev) (left dev (omega (arith, low, keeps.shape.count))))

    pub others_there : (image : ℕ → List ℕ) → IsImage e image → KeepsOtherLogs which (partition_count c) d.bytes image
    others_there image left = record {
      other = settled_there image left (device_of 0 (other_log which)) (other_below which d.count is.decisions.counting.known) (apart_from_other which) is.decisions.counting.other;
      part_a = λ p low. let q = partition p low in settled_there image left (part_device p) (omega (arith, q.1.known)) (λ same. apart_from_part which p 0 (omega (arith, same))) (logs_settled d q.0 p (v p) (decided_by c p) q.1).0;
      part_b = λ p low. let q = partition p low in settled_there image left (part_device p + 1) (omega (arith, q.1.known)) (λ same. apart_from_part which p 1 (omega (arith, same))) (logs_settled d q.0 p (v p) (decided_by c p) q.1).1;
    }

    -- the pages of a partition are those of an image from before
    pub pages_there : (image : ℕ → List ℕ) → IsImage e image → (p : ℕ) → p < partition_count c → d.image (pages_device p) (image (pages_device p))
    pages_there image left p low = keeps.images (pages_device p) (λ same. apart_from_part which p 2 (omega (arith, same ∙ is.decisions.counting.device))) (image (pages_device p)) (left (pages_device p) (omega (arith, (partition p low).1.known, keeps.shape.count)))

    pub each_image : (payload : List ℕ) (c' : Coordinator D) → ((new : ℕ → List ℕ) → ((p : ℕ) → p < partition_count c → d.image (pages_device p) (new (pages_device p))) → PagesSame c' v d.bytes new)
        → ((logs : Logs) → HasOneMore (logs_of d.bytes) logs (device_of 0 which) payload → IsSameAt (device_of 0 (other_log which)) (logs_of d.bytes) logs → ((p : ℕ) → p < partition_count c → PartSame (logs_of d.bytes) logs p) → Stood r logs d.bytes which c' v)
        → EachImage e (device_of 0 which) (IsBeforeOrWith (d.bytes (device_of 0 which)) payload) → StandForEither r e (found_of c v) (found_of c' v)
    each_image payload c' pages makes images asked image left =
        by (images (keeps.shape.told ∙ told) (image (device_of 0 which)) (left (device_of 0 which) (counted which (omega (arith, is.decisions.counting.known, keeps.shape.count)))))
      where
        counted : (w : WhichLog) → 1 < e.count → device_of 0 w < e.count
        counted LogA low = omega (arith, low)
        counted LogB low = low

        kept : KeepsOtherLogs which (partition_count c) d.bytes image
        kept = others_there image left

        there : (p : ℕ) → p < partition_count c → d.image (pages_device p) (image (pages_device p))
        there = pages_there image left

        by : IsBeforeOrWith (d.bytes (device_of 0 which)) payload (image (device_of 0 which)) → (stands_on r image asked ≡ Ok (found_of c v)) ⊎ (stands_on r image asked ≡ Ok (found_of c' v))
        by (inl same) = inl (stood_stands r (logs_of image) image asked which c v (without told image there kept same))
        by (inr more) = inr (stood_stands r (logs_of image) image asked which c' v (with_entry told image there kept payload c' (pages image there) makes more))

  -- THE LOG'S ENTRIES with one more, whatever the bytes are
  logs_with : List ℕ → Logs
  logs_with payload = pushed (logs_of d.bytes) (device_of 0 which) (is.decisions.counting.entries ++ payload ∷ [])

  stood_with : (payload : List ℕ) (c' : Coordinator D) → IsTrue d.told
      → ((logs : Logs) → HasOneMore (logs_of d.bytes) logs (device_of 0 which) payload → IsSameAt (device_of 0 (other_log which)) (logs_of d.bytes) logs → ((p : ℕ) → p < partition_count c → PartSame (logs_of d.bytes) logs p) → Stood r logs d.bytes which c' v)
      → Stood r (logs_with payload) d.bytes which c' v
  unfolding logs_with
  stood_with payload c' told makes = makes (logs_with payload) one other parts_there
    where
      there : (dev : ℕ) → dev ≢ device_of 0 which → logs_with payload dev ≡ logs_of d.bytes dev
      there dev apart = pushed_there (logs_of d.bytes) (device_of 0 which) (is.decisions.counting.entries ++ payload ∷ []) dev apart

      one : HasOneMore (logs_of d.bytes) (logs_with payload) (device_of 0 which) payload
      one = record {
        entries = is.decisions.counting.entries;
        before = ap (λ dev. entries_in (d.bytes dev)) (sym is.decisions.counting.device) ∙ log_bytes d x.decisions.gate is.decisions.counting.entries told is.decisions.counting.is_log;
        after = pushed_here (logs_of d.bytes) (device_of 0 which) (is.decisions.counting.entries ++ payload ∷ []);
      }

      other : IsSameAt (device_of 0 (other_log which)) (logs_of d.bytes) (logs_with payload)
      other = there (device_of 0 (other_log which)) (apart_from_other which)

      parts_there : (p : ℕ) → p < partition_count c → PartSame (logs_of d.bytes) (logs_with payload) p
      parts_there p low = record { a = there (part_device p) (λ same. apart_from_part which p 0 (omega (arith, same))); b = there (part_device p + 1) (λ same. apart_from_part which p 1 (omega (arith, same))) }

  pub sound_with : (payload : List ℕ) (c' : Coordinator D) → partition_count c' ≡ partition_count c → IsTrue d.told
      → ((logs : Logs) → HasOneMore (logs_of d.bytes) logs (device_of 0 which) payload → IsSameAt (device_of 0 (other_log which)) (logs_of d.bytes) logs → ((p : ℕ) → p < partition_count c → PartSame (logs_of d.bytes) logs p) → Stood r logs d.bytes which c' v)
      → IsSound r c' v
  sound_with payload c' same_parts told makes = let s = stood_with payload c' told makes in record {
    coordinator = s.coordinator.is;
    part = λ p low. (s.part p low).sound;
    rows = λ p low. rows_sound r c' p (v p).log (d.bytes (pages_device p)) (v p).rows (s.part p low).rows;
  }

  -- partitions are as they were after a call that writes the coordinator's log alone
  pub partitions_stay : (e : View) → KeepsOthers (device_in x.decisions) d e None → ArePartitions e x.parts v (decided_by c)
  partitions_stay e keeps = partitions_kept d e x.parts v (decided_by c) keeps.shape (λ q. subst (IsUnchanged d e) (omega arith) (unchanged q 0)) (λ q. unchanged q 1) (λ q. subst (IsUnchanged d e) (omega arith) (unchanged q 2)) is.parts
    where
      unchanged : (p k : ℕ) → IsUnchanged d e (2 + 3 * p + k)
      unchanged p k = keeps.kept (2 + 3 * p + k) (λ same. apart_from_part which p k (same ∙ is.decisions.counting.device))

  -- AFTER OK
  pub after_entry : (e : View) (y : Store) (payload : List ℕ) (c' : Coordinator D) → partition_count c' ≡ partition_count c → ((p : ℕ) → decided_by c' p ≡ decided_by c p)
      → (IsTrue d.told → (logs : Logs) → HasOneMore (logs_of d.bytes) logs (device_of 0 which) payload → IsSameAt (device_of 0 (other_log which)) (logs_of d.bytes) logs → ((p : ℕ) → p < partition_count c → PartSame (logs_of d.bytes) logs p) → Stood r logs d.bytes which c' v)
      → KeepsOthers (device_in x.decisions) d e None → y.parts ≡ x.parts → IsDecisions e y.decisions which c'.log → IsStore r e y which c' v
  after_entry e y payload c' same_parts same_units makes keeps parts decisions = record {
    decisions = decisions;
    size = ap (λ (ps : List Partition). length ps) parts ∙ is.size ∙ sym same_parts;
    parts = subst (λ (ps : List Partition). ArePartitions e ps v (decided_by c')) (sym parts) kept;
    sound = λ told. let before = sym keeps.shape.told ∙ told in sound_with payload c' same_parts before (makes before);
  }
    where
      kept : ArePartitions e x.parts v (decided_by c')
      kept = record { each = λ p. subst (λ us. IfSome (slice_get x.parts p) (λ q. IsPartition e q p (v p) us)) (sym (same_units p)) ((partitions_stay e keeps).each p) }

  -- NOTHING IS WRITTEN
  pub unchanged_images : IsTrue d.told → (asked : Shape) (image : ℕ → List ℕ) → IsImage d image → stands_on r image asked ≡ Ok (found_of c v)
  unchanged_images told asked image left = stood_stands r (logs_of image) image asked which c v (without told image (λ p low. left (pages_device p) (partition p low).1.known) kept (ap entries_in own))
    where
      kept : KeepsOtherLogs which (partition_count c) d.bytes image
      kept = others_there d None (record { shape = same_shape d; kept = λ dev other. record { bytes = refl; images = λ c' left'. left' }; images = λ dev other c' left'. left' }) told image left

      counted : (w : WhichLog) → 1 < d.count → device_of 0 w < d.count
      counted LogA low = omega (arith, low)
      counted LogB low = low

      own : image (device_of 0 which) ≡ d.bytes (device_of 0 which)
      own = subst (λ dev. (c' : List ℕ) → d.image dev c' → c' ≡ d.bytes dev) is.decisions.counting.device is.decisions.counting.is_log.settled (image (device_of 0 which)) (left (device_of 0 which) (counted which is.decisions.counting.known))

  -- WHAT A BOOT AND A DEFINITION MAKE
  pub makes_boot : IsTrue d.told → (payload : List ℕ) → entry_in (partition_count c) payload ≡ Some (Boots (c.log.told.boot + 1))
      → (logs : Logs) → HasOneMore (logs_of d.bytes) logs (device_of 0 which) payload → IsSameAt (device_of 0 (other_log which)) (logs_of d.bytes) logs → ((p : ℕ) → p < partition_count c → PartSame (logs_of d.bytes) logs p)
      → Stood r logs d.bytes which (with_boot c) v
  makes_boot told payload spells logs one other parts = boot_stood r (logs_of d.bytes) logs d.bytes which c v payload (stood told) one other spells parts

  pub makes_definition : IsTrue d.told → (payload : List ℕ) (t : NumberedText) (def : D) → entry_in (partition_count c) payload ≡ Some (Defines t) → t.number ≡ c.log.told.decisions + 1
      → r.read t.text ≡ Some def → r.is_refused c.definitions def ≡ false → StaysFitting r c.definitions def
      → (logs : Logs) → HasOneMore (logs_of d.bytes) logs (device_of 0 which) payload → IsSameAt (device_of 0 (other_log which)) (logs_of d.bytes) logs → ((p : ℕ) → p < partition_count c → PartSame (logs_of d.bytes) logs p)
      → Stood r logs d.bytes which (with_definition c t def) v
  makes_definition told payload t def spells number reads accepted grows logs one other parts =
      definition_stood r (logs_of d.bytes) logs d.bytes which c v payload t def (stood told) one other spells number reads accepted grows parts
