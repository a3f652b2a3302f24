-- Before a unit is decided each image stands for what stood before, whichever of its shares are prepared.
use Rattle.salt_bytes.specs.Coordinator.{Decision}
use Rattle.salt_bytes.specs.Generations.{LogA, LogB, WhichLog}
use Rattle.salt_bytes.specs.Log.{entries_in}
use Rattle.salt_bytes.specs.declared.moves.Move.{Move}
use Rattle.salt_checkpoint.proofs.Named.{named_reads}
use Rattle.salt_checkpoint.specs.Checkpoints.{IsReady, StandsAlways}
use Rattle.salt_decisions.specs.Decisions.{IsBeforeOrWith}
use Rattle.salt_disk.specs.Disks.{EachImage, IsImage, IsSettled, SameShape, Shrinks, View}
use Rattle.salt_shares.proofs.Sharing.{one_device, pages_apart}
use Rattle.salt_stands.proofs.Commits.{undecided}
use Rattle.salt_stands.specs.Commits.{MayCommit, PartMore, PartSame, Spelled, partition_count}
use Rattle.salt_stands.specs.Coordinator.{Coordinator, device_of}
use Rattle.salt_stands.specs.Partition.{pages_device, part_device}
use Rattle.salt_stands.specs.Pieces.{IsSameAt, PartView, other_log}
use Rattle.salt_stands.specs.Reading.{Reading}
use Rattle.salt_stands.specs.Stands.{logs_of}
use Rattle.salt_values.specs.declared.change.Change.{Change}
use Rattle.salt_values.specs.declared.cont.Cont.{Cont}
use Rattle.std.proofs.Common.{IsTrue, List, ap, arith, inl, inr, sym, ℕ, ◌<◌, ◌≡◌, ◌≢◌, ◌⊎◌, ◌∙◌}

coordinator_apart : (k q : ℕ) (z : WhichLog) → k < 2 → k ≢ device_of (part_device q) z
coordinator_apart k q LogA low e = omega (arith, low, e)
coordinator_apart k q LogB low e = omega (arith, low, e)

differs : (w : WhichLog) (a : ℕ) → device_of a (other_log w) ≢ device_of a w
differs LogA a e = omega (arith, e)
differs LogB a e = omega (arith, e)

log_below : (w : WhichLog) (p n : ℕ) → pages_device p < n → device_of (part_device p) w < n
log_below LogA p n low = omega (arith, low)
log_below LogB p n low = omega (arith, low)

module _ {D : Type 0} (r : Reading D) (d : View) (which : WhichLog) (c : Coordinator D) (v : ℕ → PartView) (ready : IsReady r d which c v) (cs : List Change) (decision : Decision) (m : Move) (conts : List Cont) (payload : List ℕ) (entry : ℕ → List ℕ)
    (may : MayCommit r c v cs decision m conts) (spelled : Spelled c v cs decision payload entry) (e : View) (shape : SameShape d e) (told : IsTrue d.told)
    (others : (dev : ℕ) → ((q : ℕ) → dev ≢ device_of (part_device q) (v q).which) → Shrinks d e dev)
    (images : (p : ℕ) → p < partition_count c → EachImage e (device_of (part_device p) (v p).which) (IsBeforeOrWith (d.bytes (device_of (part_device p) (v p).which)) (entry p))) where
  module _ (image : ℕ → List ℕ) (left : IsImage e image) where
    at : (dev : ℕ) → dev < d.count → e.image dev (image dev)
    at dev low = left dev (omega (arith, low, shape.count))

    -- a device that is no counting log of a partition
    there : (dev : ℕ) → dev < d.count → ((q : ℕ) → dev ≢ device_of (part_device q) (v q).which) → IsSettled d dev → image dev ≡ d.bytes dev
    there dev low apart settled = settled (image dev) (others dev apart (image dev) (at dev low))

    log_settled : (p : ℕ) → p < partition_count c → (w : WhichLog) → IsSettled d (device_of (part_device p) w)
    log_settled p low LogA = ready.log_a p low
    log_settled p low LogB = ready.log_b p low

    other_apart : (p q : ℕ) → device_of (part_device p) (other_log (v p).which) ≢ device_of (part_device q) (v q).which
    other_apart p q equal =
        let same : p ≡ q = one_device p q (other_log (v p).which) (v q).which equal in
        differs (v p).which (part_device p) (equal ∙ ap (λ (n : ℕ). device_of (part_device n) (v n).which) (sym same))

    other_there : (p : ℕ) → p < partition_count c → IsSameAt (device_of (part_device p) (other_log (v p).which)) (logs_of d.bytes) (logs_of image)
    other_there p low = ap entries_in (there (device_of (part_device p) (other_log (v p).which)) (log_below (other_log (v p).which) p d.count (ready.known p low)) (other_apart p) (log_settled p low (other_log (v p).which)))

    both : (p : ℕ) (w : WhichLog) → IsSameAt (device_of (part_device p) w) (logs_of d.bytes) (logs_of image) → IsSameAt (device_of (part_device p) (other_log w)) (logs_of d.bytes) (logs_of image) → PartSame (logs_of d.bytes) (logs_of image) p
    both p LogA one two = record { a = one; b = two }
    both p LogB one two = record { a = two; b = one }

    part : (p : ℕ) → p < partition_count c → IsBeforeOrWith (d.bytes (device_of (part_device p) (v p).which)) (entry p) (image (device_of (part_device p) (v p).which))
        → PartSame (logs_of d.bytes) (logs_of image) p ⊎ PartMore (logs_of d.bytes) (logs_of image) p (v p).which (entry p)
    part p low (inl same) = inl (both p (v p).which same (other_there p low))
    part p low (inr more) = inr (record { more = record { entries = more.entries; before = more.was; after = more.now }; other = other_there p low })

  pub undecided_stand : StandsAlways r e c v
  undecided_stand asked image left = undecided r c v which cs decision m conts payload entry may spelled (logs_of d.bytes) (logs_of image) d.bytes image ready.stood
      (λ p low. named_reads (v p) (d.bytes (pages_device p)) (image (pages_device p)) (ready.pages p low (image (pages_device p)) (others (pages_device p) (λ q. pages_apart p q (v q).which) (image (pages_device p)) (at image left (pages_device p) (ready.known p low)))))
      asked
      (record {
        a = ap entries_in (there image left 0 (omega (arith, ready.two)) (λ q. coordinator_apart 0 q (v q).which (omega arith)) ready.first);
        b = ap entries_in (there image left 1 ready.two (λ q. coordinator_apart 1 q (v q).which (omega arith)) ready.second);
        part = λ p low.
            let dev = device_of (part_device p) (v p).which in
            part image left p low (images p low (shape.told ∙ told) (image dev) (at image left dev (log_below (v p).which p d.count (ready.known p low))));
      })
