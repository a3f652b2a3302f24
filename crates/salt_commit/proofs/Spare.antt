-- Pages of a store that is ready are written to sides that no header names: each image stands for what stood before.
use Rattle.salt_bytes.specs.Generations.{WhichLog}
use Rattle.salt_bytes.specs.Log.{entries_in}
use Rattle.salt_checkpoint.proofs.Named.{named_reads}
use Rattle.salt_checkpoint.proofs.Standing.{log_is_no_page}
use Rattle.salt_checkpoint.proofs.Torn.{named_on}
use Rattle.salt_checkpoint.specs.Checkpoints.{IsReady, StandsAlways}
use Rattle.salt_checkpoint.specs.Sides.{KeepsNamed}
use Rattle.salt_disk.specs.Disks.{IsImage, IsSettled, KeepsBut, View}
use Rattle.salt_disk.specs.declared.disks.DiskErr.{DiskErr}
use Rattle.salt_parts.specs.Openings.{IsPagesOf}
use Rattle.salt_stands.proofs.Stores.{keeps_standing, stood_stands}
use Rattle.salt_stands.specs.Commits.{Stood, partition_count}
use Rattle.salt_stands.specs.Coordinator.{Coordinator}
use Rattle.salt_stands.specs.Partition.{pages_device, part_device}
use Rattle.salt_stands.specs.Pieces.{PartView, ReadsSamePages}
use Rattle.salt_stands.specs.Reading.{Reading}
use Rattle.salt_stands.specs.Stands.{logs_of}
use Rattle.std.proofs.Common.{List, Option, ap, arith, inl, ℕ, ◌+◌, ◌<◌, ◌≡◌, ◌≢◌}

-- the named sides of one partition are read as before
pub spare_reads : (d e : View) (v : PartView) (dev : ℕ) → KeepsNamed v.log.header.sides d e dev → ((b : List ℕ) → d.image dev b → Rattle.salt_checkpoint.specs.Sides.NamedSame v.log.header.sides (d.bytes dev) b)
    → (image : List ℕ) → e.image dev image → ReadsSamePages v (d.bytes dev) image
spare_reads d e v dev keeps settled image left =
    let from = keeps image left in
    named_reads v (d.bytes dev) image (named_on v.log.header.sides (d.bytes dev) from.0 image (settled from.0 from.1) from.2)

module _ {D : Type 0} (r : Reading D) (d e : View) (which : WhichLog) (c : Coordinator D) (v : ℕ → PartView) (ready : IsReady r d which c v) (n : ℕ) (answer : Option DiskErr)
    (others : KeepsBut (IsPagesOf n) d e answer) (pages : (p : ℕ) → p < partition_count c → KeepsNamed (v p).log.header.sides d e (pages_device p)) where
  module _ (image : ℕ → List ℕ) (left : IsImage e image) where
    at : (dev : ℕ) → dev < d.count → e.image dev (image dev)
    at dev low = left dev (omega (arith, low, others.shape.count))

    same : (dev : ℕ) → dev < d.count → ((p : ℕ) → dev ≢ pages_device p) → IsSettled d dev → image dev ≡ d.bytes dev
    same dev low apart settled = settled (image dev) (others.images dev (λ t. apart t.p t.is) (image dev) (at dev low))

    log_same : (p k : ℕ) → p < partition_count c → k < 2 → IsSettled d (part_device p + k) → image (part_device p + k) ≡ d.bytes (part_device p + k)
    log_same p k low few = same (part_device p + k) (omega (arith, ready.known p low, few)) (λ q. log_is_no_page p q k few)

    stood : Stood r (logs_of image) image which c v
    stood = keeps_standing r (logs_of d.bytes) (logs_of image) d.bytes image which c v ready.stood
        (inl (record {
          a = ap entries_in (same 0 (omega (arith, ready.two)) (λ p equal. omega (arith, equal)) ready.first);
          b = ap entries_in (same 1 ready.two (λ p equal. omega (arith, equal)) ready.second);
        }))
        (λ p low. inl (record {
          a = ap entries_in (same (part_device p) (omega (arith, ready.known p low)) (λ q equal. log_is_no_page p q 0 (omega arith) (omega (arith, equal))) (ready.log_a p low));
          b = ap entries_in (log_same p 1 low (omega arith) (ready.log_b p low));
        }))
        (λ p low. spare_reads d e (v p) (pages_device p) (pages p low) (ready.pages p low) (image (pages_device p)) (at (pages_device p) (ready.known p low)))

  pub spare_stand : StandsAlways r e c v
  spare_stand asked image left = stood_stands r (logs_of image) image asked which c v (stood image left)
