-- What images of a snapshot stand for: the coordinator's other log is made blank, and begun with its next header.
use Rattle.salt_checkpoint.proofs.Named.{named_reads}
use Rattle.salt_checkpoint.proofs.Standing.{settled_named, settled_same}
use Rattle.salt_checkpoint.specs.Checkpoints.{IsReady, NamedSettled}
use Rattle.salt_checkpoint.specs.Sides.{NamedSame}
use Rattle.salt_bytes.specs.Coordinator.{header_in}
use Rattle.salt_bytes.specs.Generations.{LogA, LogB, WhichLog}
use Rattle.salt_bytes.specs.Log.{entries_in}
use Rattle.salt_disk.specs.Disks.{IsSettled, SameShape, Shrinks, View}
use Rattle.salt_stands.proofs.Stores.{keeps_standing, snapshot_found, snapshot_stood, stood_stands}
use Rattle.salt_stands.specs.Commits.{CoordinatorBlanked, CoordinatorSame, PartSame, Stood, found_of, partition_count}
use Rattle.salt_stands.specs.Coordinator.{Coordinator, device_of}
use Rattle.salt_stands.specs.Partition.{is_format_under, pages_device, part_device}
use Rattle.salt_stands.specs.Pieces.{IsSameAt, PartView, ReadsSamePages, next_header, other_log, with_snapshot}
use Rattle.salt_stands.specs.Reading.{Reading}
use Rattle.salt_stands.specs.Stands.{Found, stands_on, logs_of}
use Rattle.salt_place.specs.declared.placement.Shape.{Shape}
use Rattle.std.proofs.Common.{List, Ok, Some, [], ap, arith, inl, inr, refl, subst, sym, true, ℕ, ◌+◌, ◌<◌, ◌≡◌, ◌≢◌, ◌⊎◌, ◌∙◌, ◌∷◌}
use Rattle.std.proofs.lemmas.Bool.{cases_eq}

other_low : (which : WhichLog) → device_of 0 which < 2
other_low LogA = omega arith
other_low LogB = omega arith

other_dev : (which : WhichLog) → device_of 0 which ≢ device_of 0 (other_log which)
other_dev LogA e = omega (arith, e)
other_dev LogB e = omega (arith, e)

-- with this format
abbrev pub in_format : {D : Type 0} → ℕ → Found D → Found D
in_format format found = record found { format = format }

module _ {D : Type 0} (r : Reading D) (d : View) (which : WhichLog) (c : Coordinator D) (v : ℕ → PartView) (ready : IsReady r d which c v) (image : ℕ → List ℕ)
    (others : (dev : ℕ) → dev < d.count → dev ≢ device_of 0 (other_log which) → (d.image dev (image dev)) ⊎ (image dev ≡ d.bytes dev)) where
  apart : (dev : ℕ) → 1 < dev → dev ≢ device_of 0 (other_log which)
  apart dev high e = omega (arith, high, e, other_low (other_log which))

  counting : IsSameAt (device_of 0 which) (logs_of d.bytes) (logs_of image)
  counting = ap entries_in (settled_same d (device_of 0 which) (image (device_of 0 which)) (by which) (others (device_of 0 which) (omega (arith, ready.two, other_low which)) (other_dev which)))
    where
      by : (w : WhichLog) → IsSettled d (device_of 0 w)
      by LogA = ready.first
      by LogB = ready.second

  part_same : (p : ℕ) → p < partition_count c → PartSame (logs_of d.bytes) (logs_of image) p
  part_same p low = record {
    a = ap entries_in (settled_same d (part_device p) (image (part_device p)) (ready.log_a p low) (others (part_device p) (omega (arith, ready.known p low)) (apart (part_device p) (omega arith))));
    b = ap entries_in (settled_same d (part_device p + 1) (image (part_device p + 1)) (ready.log_b p low) (others (part_device p + 1) (omega (arith, ready.known p low)) (apart (part_device p + 1) (omega arith))));
  }

  pages_same : (p : ℕ) → p < partition_count c → ReadsSamePages (v p) (d.bytes (pages_device p)) (image (pages_device p))
  pages_same p low = named_reads (v p) (d.bytes (pages_device p)) (image (pages_device p))
      (settled_named (v p).log.header.sides d (pages_device p) (image (pages_device p)) (ready.pages p low) (others (pages_device p) (ready.known p low) (apart (pages_device p) (omega arith))))

  -- BEFORE the header stands
  pub unsnapped_stood : (entries_in (image (device_of 0 (other_log which))) ≡ Some []) ⊎ (image (device_of 0 (other_log which)) ≡ d.bytes (device_of 0 (other_log which))) → Stood r (logs_of image) image which c v
  unsnapped_stood log = keeps_standing r (logs_of d.bytes) (logs_of image) d.bytes image which c v ready.stood (own log) (λ p low. inl (part_same p low)) pages_same
    where
      same : (w : WhichLog) → IsSameAt (device_of 0 w) (logs_of d.bytes) (logs_of image) → IsSameAt (device_of 0 (other_log w)) (logs_of d.bytes) (logs_of image) → CoordinatorSame (logs_of d.bytes) (logs_of image)
      same LogA one two = record { a = one; b = two }
      same LogB one two = record { a = two; b = one }

      own : (entries_in (image (device_of 0 (other_log which))) ≡ Some []) ⊎ (image (device_of 0 (other_log which)) ≡ d.bytes (device_of 0 (other_log which))) → CoordinatorSame (logs_of d.bytes) (logs_of image) ⊎ CoordinatorBlanked (logs_of d.bytes) (logs_of image) which
      own (inl blank) = inr (record { counting = counting; other = blank })
      own (inr as_it_was) = inl (same which counting (ap entries_in as_it_was))

  pub unsnapped_stands : (entries_in (image (device_of 0 (other_log which))) ≡ Some []) ⊎ (image (device_of 0 (other_log which)) ≡ d.bytes (device_of 0 (other_log which))) → (asked : Shape) → stands_on r image asked ≡ Ok (found_of c v)
  unsnapped_stands log asked = stood_stands r (logs_of image) image asked which c v (unsnapped_stood log)

  -- WITH IT: no partition has a prepared unit, and each has a format that goes under the header's
  module _ (payload : List ℕ) (format : ℕ) (spells : header_in payload ≡ Some (next_header c.log c.conts format)) (none : (p : ℕ) → p < partition_count c → (v p).log.prepared ≡ [])
      (fits : (p : ℕ) → p < partition_count c → is_format_under format (v p).log.header.format ≡ true) (log : entries_in (image (device_of 0 (other_log which))) ≡ Some (payload ∷ [])) where
    pub snapped_stood : Stood r (logs_of image) image (other_log which) (with_snapshot c format) v
    snapped_stood = snapshot_stood r (logs_of d.bytes) (logs_of image) image which c v payload format here counting log spells (λ p low. (part_same p low, none p low, fits p low))
      where
        here : Stood r (logs_of d.bytes) image which c v
        here = keeps_standing r (logs_of d.bytes) (logs_of d.bytes) d.bytes image which c v ready.stood (inl (record { a = refl; b = refl })) (λ p low. inl (record { a = refl; b = refl })) pages_same

    pub snapped_stands : (asked : Shape) → stands_on r image asked ≡ Ok (in_format format (found_of c v))
    snapped_stands asked = stood_stands r (logs_of image) image asked (other_log which) (with_snapshot c format) v snapped_stood ∙ ap Ok (snapshot_found r c v format none)

-- behind Ok: the coordinator stands in its other log, in this format
module _ {D : Type 0} (r : Reading D) (d e : View) (which : WhichLog) (c : Coordinator D) (v : ℕ → PartView) (ready : IsReady r d which c v) (shape : SameShape d e)
    (left : (dev : ℕ) → dev ≢ device_of 0 (other_log which) → Shrinks d e dev) (kept : (dev : ℕ) → dev ≢ device_of 0 (other_log which) → e.bytes dev ≡ d.bytes dev) (settled : IsSettled e (device_of 0 (other_log which))) where
  far : (dev : ℕ) → 1 < dev → dev ≢ device_of 0 (other_log which)
  far dev high e = omega (arith, high, e, other_low (other_log which))

  still : (dev : ℕ) → IsSettled d dev → IsSettled e dev
  still dev was = elim (cases_eq dev (device_of 0 (other_log which))) [
    | inl same ↦ subst (λ k. IsSettled e k) (sym same) settled
    | inr apart ↦ λ b h. was b (left dev apart b h) ∙ sym (kept dev apart)
  ]

  pages_still : (p : ℕ) → p < partition_count c → NamedSettled (v p).log.header.sides e (pages_device p)
  pages_still p low b h =
      let dev = pages_device p in
      subst (λ k. NamedSame (v p).log.header.sides k b) (sym (kept dev (far dev (omega arith)))) (ready.pages p low b (left dev (far dev (omega arith)) b h))

  pub snapshot_ready : (payload : List ℕ) (format : ℕ) → header_in payload ≡ Some (next_header c.log c.conts format) → ((p : ℕ) → p < partition_count c → (v p).log.prepared ≡ [])
      → ((p : ℕ) → p < partition_count c → is_format_under format (v p).log.header.format ≡ true) → entries_in (e.bytes (device_of 0 (other_log which))) ≡ Some (payload ∷ [])
      → IsReady r e (other_log which) (with_snapshot c format) v
  snapshot_ready payload format spells none fits log = record {
    stood = snapped_stood r d which c v ready e.bytes (λ dev low apart. inr (kept dev apart)) payload format spells none fits log;
    two = omega (arith, ready.two, shape.count);
    known = λ p low. omega (arith, ready.known p low, shape.count);
    first = still 0 ready.first;
    second = still 1 ready.second;
    log_a = λ p low. still (part_device p) (ready.log_a p low);
    log_b = λ p low. still (part_device p + 1) (ready.log_b p low);
    pages = pages_still;
  }
