-- What images of a checkpoint stand for.
use Rattle.salt_checkpoint.proofs.Named.{named_reads}
use Rattle.salt_checkpoint.proofs.Torn.{named_refl}
use Rattle.salt_checkpoint.specs.Checkpoints.{IsBefore, IsBehind, IsNext, IsReady, NamedSettled, OthersLeft}
use Rattle.salt_checkpoint.specs.Sides.{NamedSame}
use Rattle.salt_checkpoint.specs.declared.writes.Write.{Write}
use Rattle.salt_bytes.specs.Generations.{LogA, LogB, WhichLog}
use Rattle.salt_bytes.specs.Log.{entries_in}
use Rattle.salt_disk.specs.Disks.{IsSettled, View}
use Rattle.salt_stands.proofs.Stores.{checkpoint_found, checkpoint_stood, keeps_standing, stood_stands}
use Rattle.salt_stands.proofs.Generations.{checkpoint_tables}
use Rattle.salt_stands.specs.Commits.{CoordinatorSame, IsCheckpointed, PartBlanked, PartSame, Stood, found_of, partition_count, with_view}
use Rattle.salt_stands.specs.Coordinator.{Coordinator, device_of}
use Rattle.salt_stands.specs.Partition.{pages_device, part_device, rows_of_pages}
use Rattle.salt_stands.specs.Pieces.{IsSameAt, PartView, ReadsSamePages, checkpointed, next_part_header, other_log}
use Rattle.salt_stands.specs.Reading.{Reading}
use Rattle.salt_stands.specs.Stands.{stands_on, logs_of}
use Rattle.salt_values.specs.declared.change.Change.{Change}
use Rattle.salt_place.specs.declared.placement.Shape.{Shape}
use Rattle.std.proofs.Common.{List, Ok, Some, [], ap, arith, inl, inr, refl, subst, sym, ℕ, ◌+◌, ◌<◌, ◌≡◌, ◌≢◌, ◌⊎◌, ◌∙◌}
use Rattle.std.proofs.lemmas.Bool.{cases_eq}

-- THE DEVICES are apart

pub log_is_no_page : (q p k : ℕ) → k < 2 → part_device q + k ≢ pages_device p
log_is_no_page q p k low e = omega (arith, low, e)

log_is_low : (which : WhichLog) (p : ℕ) → (k : ℕ) × (k < 2) × (device_of (part_device p) which ≡ part_device p + k)
log_is_low LogA p = (0, omega arith, omega arith)
log_is_low LogB p = (1, omega arith, refl)

pub no_page : (which : WhichLog) (q p : ℕ) → device_of (part_device q) which ≢ pages_device p
no_page which q p e = let low = log_is_low which q in log_is_no_page q p low.0 low.1 (sym low.2 ∙ e)

other_part : (which : WhichLog) (q p k : ℕ) → k < 2 → q ≢ p → part_device q + k ≢ device_of (part_device p) which
other_part which q p k few apart e = let low = log_is_low which p in grind (arith, low.1, low.2, few, apart, e)

pub other_apart : (which : WhichLog) (p : ℕ) → device_of (part_device p) which ≢ device_of (part_device p) (other_log which)
other_apart LogA p e = omega (arith, e)
other_apart LogB p e = omega (arith, e)

pub settled_same : (d : View) (dev : ℕ) (b : List ℕ) → IsSettled d dev → (d.image dev b) ⊎ (b ≡ d.bytes dev) → b ≡ d.bytes dev
settled_same d dev b settled (inl left) = settled b left
settled_same d dev b settled (inr same) = same

pub settled_named : (sides : List ℕ) (d : View) (dev : ℕ) (b : List ℕ) → NamedSettled sides d dev → (d.image dev b) ⊎ (b ≡ d.bytes dev) → NamedSame sides (d.bytes dev) b
settled_named sides d dev b settled (inl left) = settled b left
settled_named sides d dev b settled (inr same) = subst (λ k. NamedSame sides (d.bytes dev) k) (sym same) (named_refl sides (d.bytes dev))

module _ {D : Type 0} (r : Reading D) (d : View) (which : WhichLog) (c : Coordinator D) (v : ℕ → PartView) (ready : IsReady r d which c v)
    (p : ℕ) (below : p < partition_count c) (other : ℕ) (is_other : other ≡ device_of (part_device p) (other_log (v p).which)) (image : ℕ → List ℕ) where
  module _ (left : OthersLeft d p other image) where
    here : (dev : ℕ) → dev < 2 → dev ≢ other
    here dev low e = let at = log_is_low (other_log (v p).which) p in omega (arith, low, e, is_other, at.2)

    coordinator : CoordinatorSame (logs_of d.bytes) (logs_of image)
    coordinator = record {
      a = ap entries_in (settled_same d 0 (image 0) ready.first (left.each 0 (omega (arith, ready.two)) (omega arith) (here 0 (omega arith))));
      b = ap entries_in (settled_same d 1 (image 1) ready.second (left.each 1 ready.two (omega arith) (here 1 (omega arith))));
    }

    log_known : (q k : ℕ) → q < partition_count c → k < 2 → part_device q + k < d.count
    log_known q k low few = omega (arith, ready.known q low, few)

    part_same : (q : ℕ) → q < partition_count c → q ≢ p → PartSame (logs_of d.bytes) (logs_of image) q
    part_same q low apart = record {
      a = ap entries_in (settled_same d (part_device q) (image (part_device q)) (ready.log_a q low) (left.each (part_device q) (omega (arith, ready.known q low)) (λ e. log_is_no_page q p 0 (omega arith) (omega (arith, e))) (λ e. other_part (other_log (v p).which) q p 0 (omega arith) apart (omega (arith, e, is_other)))));
      b = ap entries_in (settled_same d (part_device q + 1) (image (part_device q + 1)) (ready.log_b q low) (left.each (part_device q + 1) (omega (arith, ready.known q low)) (log_is_no_page q p 1 (omega arith)) (λ e. other_part (other_log (v p).which) q p 1 (omega arith) apart (e ∙ is_other))));
    }

    pages_same : (q : ℕ) → q < partition_count c → q ≢ p → ReadsSamePages (v q) (d.bytes (pages_device q)) (image (pages_device q))
    pages_same q low apart =
        named_reads (v q) (d.bytes (pages_device q)) (image (pages_device q))
        (settled_named (v q).log.header.sides d (pages_device q) (image (pages_device q)) (ready.pages q low) (left.each (pages_device q) (ready.known q low) (λ e. apart (omega (arith, e))) (λ e. no_page (other_log (v p).which) p q (sym is_other ∙ sym e))))

    -- the log that counts is as it was
    counting : IsSameAt (device_of (part_device p) (v p).which) (logs_of d.bytes) (logs_of image)
    counting = by (v p).which refl
      where
        by : (w : WhichLog) → w ≡ (v p).which → logs_of image (device_of (part_device p) w) ≡ logs_of d.bytes (device_of (part_device p) w)
        by LogA e = ap entries_in (settled_same d (part_device p) (image (part_device p)) (ready.log_a p below) (left.each (part_device p) (omega (arith, ready.known p below)) (λ s. log_is_no_page p p 0 (omega arith) (omega (arith, s))) (λ s. other_apart LogA p (s ∙ is_other ∙ ap (λ k. device_of (part_device p) (other_log k)) (sym e)))))
        by LogB e = ap entries_in (settled_same d (part_device p + 1) (image (part_device p + 1)) (ready.log_b p below) (left.each (part_device p + 1) (omega (arith, ready.known p below)) (log_is_no_page p p 1 (omega arith)) (λ s. other_apart LogB p (s ∙ is_other ∙ ap (λ k. device_of (part_device p) (other_log k)) (sym e)))))

  -- BEFORE the next header stands
  pub before_stood : IsBefore d p other (v p).log.header.sides image → Stood r (logs_of image) image which c v
  before_stood is = keeps_standing r (logs_of d.bytes) (logs_of image) d.bytes image which c v ready.stood (inl (coordinator is.others)) part pages
    where
      left : OthersLeft d p other image
      left = is.others

      same_logs : (w : WhichLog) → IsSameAt (device_of (part_device p) w) (logs_of d.bytes) (logs_of image) → IsSameAt (device_of (part_device p) (other_log w)) (logs_of d.bytes) (logs_of image) → PartSame (logs_of d.bytes) (logs_of image) p
      same_logs LogA one two = record { a = one; b = two }
      same_logs LogB one two = record { a = two; b = one }

      own : (entries_in (image other) ≡ Some []) ⊎ (image other ≡ d.bytes other) → PartSame (logs_of d.bytes) (logs_of image) p ⊎ PartBlanked (logs_of d.bytes) (logs_of image) p (v p).which
      own (inl blank) = inr (record { counting = counting left; other = ap (λ dev. logs_of image dev) (sym is_other) ∙ blank })
      own (inr same) = inl (same_logs (v p).which (counting left) (subst (λ dev. IsSameAt dev (logs_of d.bytes) (logs_of image)) is_other (ap entries_in same)))

      part : (q : ℕ) → q < partition_count c → PartSame (logs_of d.bytes) (logs_of image) q ⊎ PartBlanked (logs_of d.bytes) (logs_of image) q (v q).which
      part q low = elim (cases_eq q p) [
        | inl e ↦ subst (λ k. PartSame (logs_of d.bytes) (logs_of image) k ⊎ PartBlanked (logs_of d.bytes) (logs_of image) k (v k).which) (sym e) (own is.log)
        | inr apart ↦ inl (part_same left q low apart)
      ]

      pages : (q : ℕ) → q < partition_count c → ReadsSamePages (v q) (d.bytes (pages_device q)) (image (pages_device q))
      pages q low = elim (cases_eq q p) [
        | inl e ↦ subst (λ k. ReadsSamePages (v k) (d.bytes (pages_device k)) (image (pages_device k))) (sym e) (named_reads (v p) (d.bytes (pages_device p)) (image (pages_device p)) is.pages)
        | inr apart ↦ pages_same left q low apart
      ]

  pub before_stands : IsBefore d p other (v p).log.header.sides image → (asked : Shape) → stands_on r image asked ≡ Ok (found_of c v)
  before_stands is asked = stood_stands r (logs_of image) image asked which c v (before_stood is)

  -- WITH IT
  module _ (writes : List Write) (header : List ℕ) (format : ℕ) (sides : List ℕ) (rows : List Change) (next : IsNext r c p (v p) (d.bytes (pages_device p)) writes header format sides rows)
      (is : IsBehind d p other writes header image) where
    done : IsCheckpointed r c (v p) p (logs_of d.bytes) (logs_of image) image header format sides rows
    done = record {
      counting = counting is.others;
      other = ap (λ dev. logs_of image dev) (sym is_other) ∙ is.log;
      spells = next.spells;
      own = next.own;
      first = next.first;
      fits = next.fits;
      reads = ap (λ bytes. rows_of_pages r c p (checkpointed (v p) (next_part_header (v p) format sides) rows).log bytes) is.pages ∙ next.reads;
      tables = next.tables;
    }

    pub behind_stood : Stood r (logs_of image) image which c (with_view p (checkpointed (v p) (next_part_header (v p) format sides) rows) v)
    behind_stood = checkpoint_stood r (logs_of d.bytes) (logs_of image) d.bytes image which c v p header format sides rows ready.stood (coordinator is.others) below done
        (λ q low apart. (part_same is.others q low apart, pages_same is.others q low apart))

    pub behind_stands : (asked : Shape) → stands_on r image asked ≡ Ok (found_of c v)
    behind_stands asked =
        let now = checkpointed (v p) (next_part_header (v p) format sides) rows in
        stood_stands r (logs_of image) image asked which c (with_view p now v) behind_stood
        ∙ ap Ok (checkpoint_found r c v p now (checkpoint_tables r c p (v p) (next_part_header (v p) format sides) rows next.tables))
