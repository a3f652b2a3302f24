-- Pages that are written in any way to sides that no header names, as a store of frames writes them.
use Rattle.salt_bytes.specs.Generations.{WhichLog}
use Rattle.salt_checkpoint.proofs.Calls.{no_pages, other_known, other_settled}
use Rattle.salt_checkpoint.proofs.Standing.{before_stands, before_stood, log_is_no_page}
use Rattle.salt_checkpoint.proofs.Torn.{named_back, named_on}
use Rattle.salt_checkpoint.specs.Checkpoints.{IsBefore, IsReady, NamedSettled, StandsAlways}
use Rattle.salt_checkpoint.specs.Sides.{KeepsNamed, NamedSame}
use Rattle.salt_disk.specs.Disks.{IsSettled, KeepsOthers, View}
use Rattle.salt_disk.specs.declared.disks.DiskErr.{DiskErr}
use Rattle.salt_stands.specs.Commits.{partition_count}
use Rattle.salt_stands.specs.Coordinator.{Coordinator, device_of}
use Rattle.salt_stands.specs.Partition.{pages_device, part_device}
use Rattle.salt_stands.specs.Pieces.{PartView, other_log}
use Rattle.salt_stands.specs.Reading.{Reading}
use Rattle.std.proofs.Common.{List, None, Option, arith, inl, inr, refl, subst, sym, ℕ, ◌+◌, ◌<◌, ◌≡◌, ◌≢◌, ◌⊎◌, ◌∙◌, []}
use Rattle.std.proofs.lemmas.Bool.{cases_eq}

module _ {D : Type 0} (r : Reading D) (d : View) (which : WhichLog) (c : Coordinator D) (v : ℕ → PartView) (ready : IsReady r d which c v) (p : ℕ) (below : p < partition_count c) where
  abbrev other : ℕ
  other = device_of (part_device p) (other_log (v p).which)

  settled : IsSettled d other
  settled = other_settled r d which c v ready p below

  known : other < d.count
  known = other_known r d which c v ready p below other refl settled [] tt

  apart : other ≢ pages_device p
  apart = no_pages r d which c v ready p below other refl settled [] tt

  -- while they are written
  pub kept_stands : (e : View) (answer : Option DiskErr) → KeepsOthers (pages_device p) d e answer → KeepsNamed (v p).log.header.sides d e (pages_device p) → StandsAlways r e c v
  kept_stands e answer others keeps asked image left = before_stands r d which c v ready p below other refl image before asked
    where
      at : (dev : ℕ) → dev < d.count → e.image dev (image dev)
      at dev low = left dev (omega (arith, low, others.shape.count))

      from : (b : List ℕ) × d.image (pages_device p) b × NamedSame (v p).log.header.sides b (image (pages_device p))
      from = keeps (image (pages_device p)) (at (pages_device p) (ready.known p below))

      before : IsBefore d p other (v p).log.header.sides image
      before = record {
        others = record { each = λ dev low page no_other. inl (others.images dev page (image dev) (at dev low)) };
        log = inr (settled (image other) (others.images other apart (image other) (at other known)));
        pages = named_on (v p).log.header.sides (d.bytes (pages_device p)) from.0 (image (pages_device p)) (ready.pages p below from.0 from.1) from.2;
      }

  -- behind Ok all stand as before
  module _ (e : View) (others : KeepsOthers (pages_device p) d e None) (keeps : KeepsNamed (v p).log.header.sides d e (pages_device p)) (same : NamedSame (v p).log.header.sides (d.bytes (pages_device p)) (e.bytes (pages_device p))) where
    still : (dev : ℕ) → dev ≢ pages_device p → IsSettled d dev → IsSettled e dev
    still dev far was b left = was b (others.images dev far b left) ∙ sym (others.kept dev far).bytes

    as_kept : IsBefore d p other (v p).log.header.sides e.bytes
    as_kept = record { others = record { each = λ dev low page no_other. inr (others.kept dev page).bytes }; log = inr (others.kept other apart).bytes; pages = same }

    pages_still : (q : ℕ) → q < partition_count c → NamedSettled (v q).log.header.sides e (pages_device q)
    pages_still q low = by (cases_eq q p)
      where
        own : NamedSettled (v p).log.header.sides e (pages_device p)
        own b left =
            let from = keeps b left in
            let was : NamedSame (v p).log.header.sides (d.bytes (pages_device p)) from.0 = ready.pages p below from.0 from.1 in
            named_on (v p).log.header.sides (e.bytes (pages_device p)) (d.bytes (pages_device p)) b (named_back (v p).log.header.sides (d.bytes (pages_device p)) (e.bytes (pages_device p)) same)
            (named_on (v p).log.header.sides (d.bytes (pages_device p)) from.0 b was from.2)

        by : (q ≡ p) ⊎ (q ≢ p) → NamedSettled (v q).log.header.sides e (pages_device q)
        by (inl at) = subst (λ k. NamedSettled (v k).log.header.sides e (pages_device k)) (sym at) own
        by (inr far) = λ b left.
            let away : pages_device q ≢ pages_device p = λ s. far (omega (arith, s)) in
            let was : NamedSame (v q).log.header.sides (d.bytes (pages_device q)) b = ready.pages q low b (others.images (pages_device q) away b left) in
            subst (λ k. NamedSame (v q).log.header.sides k b) (sym (others.kept (pages_device q) away).bytes) was

    pub kept_ready : IsReady r e which c v
    kept_ready = record {
      stood = before_stood r d which c v ready p below other refl e.bytes as_kept;
      two = omega (arith, ready.two, others.shape.count);
      known = λ q low. omega (arith, ready.known q low, others.shape.count);
      first = still 0 (omega arith) ready.first;
      second = still 1 (omega arith) ready.second;
      log_a = λ q low. still (part_device q) (λ s. log_is_no_page q p 0 (omega arith) (omega (arith, s))) (ready.log_a q low);
      log_b = λ q low. still (part_device q + 1) (log_is_no_page q p 1 (omega arith)) (ready.log_b q low);
      pages = pages_still;
    }
