-- Before a unit is decided: its shares and its decision are read again, and each image stands for what stood before.
use Rattle.salt_bytes.proofs.Logs.{reads_entry}
use Rattle.salt_bytes.specs.Coordinator.{Decides, Decision, entry_in, spell_entry}
use Rattle.salt_bytes.specs.Formats.{has_nulls}
use Rattle.salt_bytes.specs.Generations.{LogA, LogB, WhichLog}
use Rattle.salt_bytes.specs.Log.{entries_in}
use Rattle.salt_bytes.specs.Partition.{prepared_in, spell_prepared}
use Rattle.salt_bytes.specs.Spellable.{Every, IsSpellableId}
use Rattle.salt_bytes.specs.declared.moves.Move.{Move}
use Rattle.salt_commit.proofs.Ordered.{in_order_filter, share_fits}
use Rattle.salt_commit.proofs.Shared.{mask_bit, mask_small, share_is, share_past}
use Rattle.salt_checkpoint.proofs.Standing.{log_is_no_page}
use Rattle.salt_checkpoint.specs.Checkpoints.{IsReady, StandsAlways}
use Rattle.salt_checkpoint.specs.Sides.{KeepsNamed}
use Rattle.salt_commit.proofs.Spare.{spare_reads}
use Rattle.salt_commit.specs.Commits.{MayCommitUnit}
use Rattle.salt_commit.specs.Shares.{next_decision, shares_of}
use Rattle.salt_commit.specs.Stores.{IsStore, decided_by}
use Rattle.salt_commit.specs.Voting.{IsVoteDevice}
use Rattle.salt_commit.specs.declared.store.Store.{Store}
use Rattle.salt_decisions.specs.Decisions.{IsBeforeOrWith}
use Rattle.salt_disk.specs.Disks.{EachImage, IsImage, IsSettled, KeepsBut, View}
use Rattle.salt_disk.specs.declared.disks.DiskErr.{DiskErr}
use Rattle.salt_codec.proofs.Puttable.{read_again}
use Rattle.salt_codec.specs.Entries.{IsTold}
use Rattle.salt_paged.specs.Partitions.{ArePartitions, IsPartition}
use Rattle.salt_partition.specs.Partitions.{MayPrepare, prepared}
use Rattle.salt_paged.specs.declared.partition.Partition.{Partition}
use Rattle.salt_parts.proofs.Lists.{if_some}
use Rattle.salt_shares.proofs.Sharing.{one_device}
use Rattle.salt_shares.specs.Prepares.{MayPrepareEach}
use Rattle.salt_shares.specs.Shares.{has_changes, share_at}
use Rattle.salt_stands.proofs.Booleans.{join}
use Rattle.salt_stands.proofs.Commits.{undecided}
use Rattle.salt_stands.specs.Commits.{MayCommit, PartMore, PartSame, Spelled, partition_count, share}
use Rattle.salt_stands.specs.Coordinator.{Coordinator, device_of}
use Rattle.salt_stands.specs.Partition.{is_sound_change, is_sound_prepared, pages_device, part_device}
use Rattle.salt_stands.specs.Pieces.{IsSameAt, PartView, other_log}
use Rattle.salt_stands.specs.Placed.{AreOfParts, changes_at, is_of_part}
use Rattle.salt_stands.specs.Reading.{Reading}
use Rattle.salt_stands.specs.Stands.{logs_of}
use Rattle.salt_place.proofs.Places.{place_of-below}
use Rattle.salt_place.specs.Placement.{IsParts}
use Rattle.salt_values.specs.declared.change.Change.{Change}
use Rattle.salt_values.specs.declared.cont.Cont.{Cont}
use Rattle.salt_values.specs.declared.id.Id.{Id}
use Rattle.salt_place.specs.declared.placement.Shape.{Shape}
use Rattle.std.proofs.Common.{IsTrue, List, Option, Some, [], ap, arith, false, inl, inr, length, refl, subst, sym, true, ℕ, ◌+◌, ◌<◌, ◌^◌, ◌≡◌, ◌≢◌, ◌≤◌, ◌⊎◌, ◌∙◌, ◌∷◌}
use Rattle.std.proofs.lemmas.Bool.Decides.{nat_tests}
use Rattle.std.specs.List.{filter, list_all}
use Rattle.std.specs.Prelude.{Bool, if◌then◌else◌, slice_get, nat_le}

every_filter : {X : Type 0} (P : X → Type 0) (f : X → Bool) (xs : List X) → Every P xs → Every P (filter f xs)
every_filter P f [] h = tt
every_filter P f (x ∷ xs) h = by (f x) (every_filter P f xs h.1)
  where
    by : (b : Bool) → Every P (filter f xs) → Every P (if b then x ∷ filter f xs else filter f xs)
    by true more = (h.0, more)
    by false more = more

shorter_filter : {X : Type 0} (f : X → Bool) (xs : List X) → length (filter f xs) ≤ length xs
shorter_filter f [] = omega arith
shorter_filter f (x ∷ xs) = by (f x) (shorter_filter f xs)
  where
    by : (b : Bool) → length (filter f xs) ≤ length xs → length (if b then x ∷ filter f xs else filter f xs) ≤ length (x ∷ xs)
    by true h = omega (arith, h)
    by false h = omega (arith, h)

of_parts : (shape : Shape) (cs : List Change) → IsParts shape.parts → Every IsTold cs → AreOfParts shape shape.parts cs
of_parts shape [] parts told = tt
of_parts shape (c ∷ cs) parts told = (place_of-below shape.kind c.key shape.parts told.0.key parts, of_parts shape cs parts told.1)

no_changes : (cs : List Change) → has_changes cs ≡ false → cs ≡ []
no_changes [] e = refl
no_changes (c ∷ cs) e = cc

-- what is told of a unit in hand
pub record IsInHand (u : Id) (cs : List Change) (mv : List ℕ) : Type 0 where
  pub unit : IsSpellableId u
  pub count : length cs < 2 ^ 64
  pub move : length mv < 2 ^ 64
  pub changes : Every IsTold cs

module _ {D : Type 0} (r : Reading D) (d : View) (x : Store) (which : WhichLog) (c : Coordinator D) (v : ℕ → PartView) (is : IsStore r d x which c v)
    (u : Id) (cs : List Change) (mv : List ℕ) (m : Move) (conts : List Cont) (may : MayCommitUnit d.told r c v u cs mv m conts) (parts : IsParts (partition_count c)) where
  shape : Shape
  shape = c.log.header.shape

  pub may_prepare : MayPrepareEach v (decided_by c) u (shares_of c.log.header.shape cs)
  may_prepare = record { each = λ p changed. by p (less_or p (partition_count c)) changed }
    where
      less_or : (a b : ℕ) → (a < b) ⊎ (b ≤ a)
      less_or a b = grind arith

      by : (p : ℕ) → (p < partition_count c) ⊎ (partition_count c ≤ p) → has_changes (share_at (shares_of c.log.header.shape cs) p) ≡ true → MayPrepare (v p) (decided_by c p) u (share_at (shares_of c.log.header.shape cs) p)
      by p (inl low) changed = subst (MayPrepare (v p) (decided_by c p) u) (sym (share_is c.log.header.shape cs p low))
          (record { fresh = may.fresh p low; new = may.new p low; ordered = in_order_filter (is_of_part c.log.header.shape p) cs may.ordered; each = may.put p low })
      by p (inr high) changed = absurd (none (share_at (shares_of c.log.header.shape cs) p) (share_past c.log.header.shape cs p high) changed)
        where
          none : (s : List Change) → s ≡ [] → has_changes s ≡ true → ⊥
          none [] e h = cc
          none (s ∷ ss) e h = cc

  -- each share is sound
  pub sound_of : IsTrue d.told → (p : ℕ) → is_sound_prepared r c p (share c u cs p) ≡ true
  sound_of told p = join (nat_le u.boot c.log.told.boot) (list_all (is_sound_change r c p) (changes_at c.log.header.shape p cs)) (at_most u.boot c.log.told.boot (may.boot told)) (share_fits r c p cs (may.fits told))
    where
      at_most : (a b : ℕ) → a ≤ b → nat_le a b ≡ true
      at_most a b h = grind (arith, nat_tests)

  module _ (hand : IsInHand u cs mv) where
    pub may_commit : IsTrue d.told → MayCommit r c v cs (next_decision c u cs mv) m conts
    may_commit told = record {
      number = refl;
      boot = may.boot told;
      fresh = may.fresh;
      new = may.new;
      below = of_parts c.log.header.shape cs parts hand.changes;
      bits = λ p low bit. no_changes (changes_at c.log.header.shape p cs) (ap has_changes (sym (share_is c.log.header.shape cs p low)) ∙ sym (mask_bit (shares_of c.log.header.shape cs) p) ∙ bit);
      sound = λ p low. sound_of told p;
      spells = may.spells told;
      moves = may.moves told;
      named = may.named told;
    }

    -- the share of a partition is read again from its entry
    pub share_reads : (p : ℕ) → p < partition_count c → prepared_in (has_nulls (v p).log.header.format) (spell_prepared (prepared u (share_at (shares_of c.log.header.shape cs) p))) ≡ Some (share c u cs p)
    share_reads p low =
        let own = changes_at c.log.header.shape p cs in
        ap (λ s. prepared_in (has_nulls (v p).log.header.format) (spell_prepared (prepared u s))) (share_is c.log.header.shape cs p low)
        ∙ read_again (prepared u own) hand.unit (omega (arith, shorter_filter (is_of_part c.log.header.shape p) cs, hand.count)) (every_filter IsTold (is_of_part c.log.header.shape p) cs hand.changes) (has_nulls (v p).log.header.format) (may.put p low) (in_order_filter (is_of_part c.log.header.shape p) cs may.ordered)

    pub decision_reads : c.log.told.decisions + 1 < 2 ^ 64 → entry_in (partition_count c) (spell_entry (Decides (next_decision c u cs mv))) ≡ Some (Decides (next_decision c u cs mv))
    decision_reads room = reads_entry (partition_count c) (Decides (next_decision c u cs mv)) (record { number = room; unit = hand.unit; mask = mask_small c.log.header.shape cs; move = hand.move })

    pub spelled : c.log.told.decisions + 1 < 2 ^ 64 → Spelled c v cs (next_decision c u cs mv) (spell_entry (Decides (next_decision c u cs mv))) (λ p. spell_prepared (prepared u (share_at (shares_of c.log.header.shape cs) p)))
    spelled room = record { coordinator = decision_reads room; part = share_reads }

coordinator_apart : (k q : ℕ) (z : WhichLog) → k < 2 → k ≢ device_of (part_device q) z
coordinator_apart k q LogA low e = omega (arith, low, e)
coordinator_apart k q LogB low e = omega (arith, low, e)

pub differs : (w : WhichLog) (a : ℕ) → device_of a (other_log w) ≢ device_of a w
differs LogA a e = omega (arith, e)
differs LogB a e = omega (arith, e)

log_below : (w : WhichLog) (p n : ℕ) → pages_device p < n → device_of (part_device p) w < n
log_below LogA p n low = omega (arith, low)
log_below LogB p n low = omega (arith, low)

other_page : (w : WhichLog) (p q : ℕ) → device_of (part_device p) w ≢ pages_device q
other_page LogA p q e = log_is_no_page p q 0 (omega arith) (omega (arith, e))
other_page LogB p q e = log_is_no_page p q 1 (omega arith) e

-- EACH IMAGE while shares are prepared, and pages are written to sides that no header names
module _ {D : Type 0} (r : Reading D) (d : View) (which : WhichLog) (c : Coordinator D) (v : ℕ → PartView) (ready : IsReady r d which c v) (cs : List Change) (decision : Decision) (m : Move) (conts : List Cont) (payload : List ℕ) (entry : ℕ → List ℕ)
    (may : MayCommit r c v cs decision m conts) (spelled : Spelled c v cs decision payload entry) (told : IsTrue d.told) (e : View) (answer : Option DiskErr) (parts : List Partition) (shares : List (List Change)) (applied : ℕ → List Id)
    (are : ArePartitions d parts v applied) (size : length parts ≡ partition_count c) (others : KeepsBut (IsVoteDevice parts shares) d e answer) (named : (p : ℕ) → p < partition_count c → KeepsNamed (v p).log.header.sides d e (pages_device p))
    (images : (p : ℕ) → p < partition_count c → EachImage e (device_of (part_device p) (v p).which) (IsBeforeOrWith (d.bytes (device_of (part_device p) (v p).which)) (entry p))) where
  -- a device that is touched is the counting log of a partition, or has pages
  touched : (dev : ℕ) → IsVoteDevice parts shares dev → ((q : ℕ) → dev ≢ device_of (part_device q) (v q).which) → ((q : ℕ) → dev ≢ pages_device q) → ⊥
  touched dev (inl t) no_log no_page =
      no_log t.p (t.log.device ∙ (if_some (slice_get parts t.p) t.x (λ y. IsPartition d y t.p (v t.p) (applied t.p)) t.at (are.each t.p)).device)
  touched dev (inr t) no_log no_page = no_page t.p t.is

  module _ (image : ℕ → List ℕ) (left : IsImage e image) where
    at : (dev : ℕ) → dev < d.count → e.image dev (image dev)
    at dev low = left dev (omega (arith, low, others.shape.count))

    -- a device that is no counting log of a partition, and has no pages
    there : (dev : ℕ) → dev < d.count → ((q : ℕ) → dev ≢ device_of (part_device q) (v q).which) → ((q : ℕ) → dev ≢ pages_device q) → IsSettled d dev → image dev ≡ d.bytes dev
    there dev low no_log no_page settled = settled (image dev) (others.images dev (λ t. touched dev t no_log no_page) (image dev) (at dev low))

    log_settled : (p : ℕ) → p < partition_count c → (w : WhichLog) → IsSettled d (device_of (part_device p) w)
    log_settled p low LogA = ready.log_a p low
    log_settled p low LogB = ready.log_b p low

    other_apart : (p q : ℕ) → device_of (part_device p) (other_log (v p).which) ≢ device_of (part_device q) (v q).which
    other_apart p q equal =
        let same : p ≡ q = one_device p q (other_log (v p).which) (v q).which equal in
        differs (v p).which (part_device p) (equal ∙ ap (λ (n : ℕ). device_of (part_device n) (v n).which) (sym same))

    other_there : (p : ℕ) → p < partition_count c → IsSameAt (device_of (part_device p) (other_log (v p).which)) (logs_of d.bytes) (logs_of image)
    other_there p low =
        let dev = device_of (part_device p) (other_log (v p).which) in
        ap entries_in (there dev (log_below (other_log (v p).which) p d.count (ready.known p low)) (other_apart p) (other_page (other_log (v p).which) p) (log_settled p low (other_log (v p).which)))

    both : (p : ℕ) (w : WhichLog) → IsSameAt (device_of (part_device p) w) (logs_of d.bytes) (logs_of image) → IsSameAt (device_of (part_device p) (other_log w)) (logs_of d.bytes) (logs_of image) → PartSame (logs_of d.bytes) (logs_of image) p
    both p LogA one two = record { a = one; b = two }
    both p LogB one two = record { a = two; b = one }

    part : (p : ℕ) → p < partition_count c → IsBeforeOrWith (d.bytes (device_of (part_device p) (v p).which)) (entry p) (image (device_of (part_device p) (v p).which))
        → PartSame (logs_of d.bytes) (logs_of image) p ⊎ PartMore (logs_of d.bytes) (logs_of image) p (v p).which (entry p)
    part p low (inl same) = inl (both p (v p).which same (other_there p low))
    part p low (inr more) = inr (record { more = record { entries = more.entries; before = more.was; after = more.now }; other = other_there p low })

  pub before_decision : StandsAlways r e c v
  before_decision asked image left = undecided r c v which cs decision m conts payload entry may spelled (logs_of d.bytes) (logs_of image) d.bytes image ready.stood
      (λ p low. spare_reads d e (v p) (pages_device p) (named p low) (ready.pages p low) (image (pages_device p)) (at image left (pages_device p) (ready.known p low)))
      asked
      (record {
        a = ap entries_in (there image left 0 (omega (arith, ready.two)) (λ q. coordinator_apart 0 q (v q).which (omega arith)) (λ q equal. omega (arith, equal)) ready.first);
        b = ap entries_in (there image left 1 ready.two (λ q. coordinator_apart 1 q (v q).which (omega arith)) (λ q equal. omega (arith, equal)) ready.second);
        part = λ p low.
            let dev = device_of (part_device p) (v p).which in
            part image left p low (images p low (others.shape.told ∙ told) (image dev) (at image left dev (log_below (v p).which p d.count (ready.known p low))));
      })
