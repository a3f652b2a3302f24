-- A partition that is opened again under what is read of the coordinator's log.
use Rattle.salt_bytes.specs.Generations.{BothBlank, Counts, Faulty, LogA, LogB, Pair, WhichLog}
use Rattle.salt_commit.specs.Again.{ReadsAs}
use Rattle.salt_decisions.specs.Decisions.{IsDecisions}
use Rattle.salt_decisions.specs.Kept.{IsKept}
use Rattle.salt_decisions.specs.Opened.{Peeks}
use Rattle.salt_decisions.specs.Said.{mask_of}
use Rattle.salt_decisions.specs.declared.decisions.Decisions.{Decisions}
use Rattle.salt_decisions.specs.declared.kept.Kept.{Kept}
use Rattle.salt_disk.specs.Disks.{FullWhere, IsSettled, IsUnchanged, KeepsAll, OnlyFails, View}
use Rattle.salt_disk.specs.declared.disks.DiskErr.TheVariants.{Failed, Full, Memory, Stopped}
use Rattle.salt_disk.specs.declared.disks.DiskErr.{DiskErr}
use Rattle.salt_gatelog.proofs.Entries.{not_told}
use Rattle.salt_paged.proofs.Framed.{partition_kept}
use Rattle.salt_paged.specs.Partitions.{IsPartition}
use Rattle.salt_paged.specs.Reopening.{AreDecided, StandsToReopen}
use Rattle.salt_paged.specs.declared.partition.Partition.{Partition}
use Rattle.salt_parts.specs.Openings.{decided_in}
use Rattle.salt_place.specs.declared.placement.Shape.{Shape}
use Rattle.salt_stands.specs.Coordinator.{coordinator_pair, device_of, unit_of}
use Rattle.salt_stands.specs.CoordinatorLog.{CoordinatorLog}
use Rattle.salt_stands.specs.OpenedPart.{is_known_log}
use Rattle.salt_stands.specs.Partition.{pages_device, part_device}
use Rattle.salt_stands.specs.Pieces.{PartView, other_log}
use Rattle.salt_stands.specs.Stands.{logs_of}
use Rattle.salt_values.specs.declared.id.Id.{Id}
use Rattle.std.proofs.Common.{Err, IsTrue, List, None, Ok, Option, Result, Some, ap, arith, false, length, refl, subst, sym, true, ℕ, ◌+◌, ◌≡◌, ◌∙◌}
use Rattle.std.proofs.lemmas.List.{length-map}
use Rattle.std.specs.Result.{result_err}

-- a log keeps a mask of each decided unit
pub masks_many : (log : CoordinatorLog) (k : Kept) → IsKept k log → length k.masks ≡ length k.decided
masks_many log k h = omega (arith, ap length h.masks, ap length h.decided, length-map log.told.decided mask_of, length-map log.told.decided unit_of)

-- where a value is the coordinator's log, that is read
pub reads_of : (d : View) (x : Decisions) (which : WhichLog) (log : CoordinatorLog) → IsDecisions d x which log → ReadsAs d which log
reads_of d x which log is = record { known = is.counting.known; settled_a = settled LogA; settled_b = settled LogB; counts = is.counting.counts }
  where
    pick : (y z : WhichLog) → IsSettled d (device_of 0 y) → IsSettled d (device_of 0 (other_log y)) → IsSettled d (device_of 0 z)
    pick LogA LogA one two = one
    pick LogA LogB one two = two
    pick LogB LogA one two = two
    pick LogB LogB one two = one

    settled : (w : WhichLog) → IsSettled d (device_of 0 w)
    settled w = pick which w (subst (IsSettled d) is.counting.device is.counting.is_log.settled) is.counting.other

-- a call's answers, where it may be full
pub full_of : {T : Type 0} (result : Result T DiskErr) (P : ℕ → Type 0) → ((n : ℕ) → result ≡ Err (Full n) → P n) → FullWhere P (result_err result)
full_of (Ok x) P h = tt
full_of (Err Failed) P h = tt
full_of (Err Stopped) P h = tt
full_of (Err (Full dev)) P h = h dev refl
full_of (Err Memory) P h = tt

pub only_fails_full : (P : ℕ → Type 0) (answer : Option DiskErr) → OnlyFails answer → FullWhere P answer
only_fails_full P None h = tt
only_fails_full P (Some Failed) h = tt
only_fails_full P (Some Stopped) h = absurd h
only_fails_full P (Some (Full dev)) h = absurd h
only_fails_full P (Some Memory) h = tt

one_log : (w z : WhichLog) (a b : CoordinatorLog) → Counts w a ≡ Counts z b → a ≡ b
one_log w z a b e = cc

counts_or_blank : (w : WhichLog) (l : CoordinatorLog) (pair : Pair CoordinatorLog) → pair ≡ Counts w l → pair ≡ BothBlank → ⊥
counts_or_blank w l pair counts blank = cc

counts_or_faulty : (w z : WhichLog) (l : CoordinatorLog) (pair : Pair CoordinatorLog) → pair ≡ Counts w l → pair ≡ Faulty z → ⊥
counts_or_faulty w z l pair counts faulty = cc

module _ (d e : View) (keeps : KeepsAll d e None) (which : WhichLog) (log : CoordinatorLog) (reads : ReadsAs d which log) where
  was_told : IsTrue e.told → IsTrue d.told
  was_told now = sym keeps.shape.told ∙ now

  -- where the disks tell their bytes, what is read of the coordinator's log is what it keeps
  pub kept_is : (found : Option (Shape × Kept)) (f : Shape × Kept) → found ≡ Some f → (IsTrue d.told → Peeks (Ok found) (coordinator_pair (logs_of d.bytes))) → IsTrue d.told → IsKept f.1 log
  kept_is None f is peeks told = absurd (cc is)
  kept_is (Some g) f is peeks told =
      let h = peeks told in
      let same : g ≡ f = cc is in
      subst (λ (x : Shape × Kept). IsKept x.1 log) same (subst (IsKept g.1) (one_log h.which which h.log log (sym h.counts ∙ reads.counts told)) h.keeps)

  -- it is never blank there, and has no fault
  pub never_blank : (IsTrue d.told → coordinator_pair (logs_of d.bytes) ≡ BothBlank) → e.told ≡ false
  never_blank blank = not_told e.told (λ now. counts_or_blank which log (coordinator_pair (logs_of d.bytes)) (reads.counts (was_told now)) (blank (was_told now)))

  pub never_faulty : (z : IsTrue d.told → WhichLog) → ((told : IsTrue d.told) → coordinator_pair (logs_of d.bytes) ≡ Faulty (z told)) → e.told ≡ false
  never_faulty z faulty = not_told e.told (λ now. counts_or_faulty which (z (was_told now)) log (coordinator_pair (logs_of d.bytes)) (reads.counts (was_told now)) (faulty (was_told now)))

  module _ (x : Partition) (p : ℕ) (v : PartView) (applied : List Id) (is : IsPartition d x p v applied) where
    pub still_stands : IsPartition e x p v applied
    still_stands =
        let same : (dev : ℕ) → IsUnchanged d e dev = λ dev. keeps.kept dev (λ none. none) in
        partition_kept d e x p v applied keeps.shape (same (part_device p)) (same (part_device p + 1)) (same (pages_device p)) is

    module _ (boot : ℕ) (units : List Id) (said : IsTrue d.told → (boot ≡ log.told.boot) × (units ≡ decided_in log x.part)) where
      -- the units that are decided there are those of the log
      pub same_units : IsTrue d.told → units ≡ decided_in log p
      same_units told = (said told).1 ∙ ap (decided_in log) is.part

      pub stands_again : AreDecided applied (decided_in log p) → (IsTrue d.told → is_known_log log.told.boot (decided_in log p) v.log ≡ true) → StandsToReopen e x boot units
      stands_again goes known = record {
        p = p;
        v = v;
        applied = applied;
        decided = decided_in log p;
        is = still_stands;
        goes_on = goes;
        same = λ now. same_units (was_told now);
        known = λ now.
            let told = was_told now in
            ap (λ b. is_known_log b units v.log) (said told).0 ∙ ap (λ us. is_known_log log.told.boot us v.log) (same_units told) ∙ known told;
      }
