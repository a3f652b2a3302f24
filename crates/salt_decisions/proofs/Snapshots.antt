-- The other log, begun with all that is kept.
use Rattle.salt_bytes.proofs.Logs.{reads_header}
use Rattle.salt_bytes.specs.Coordinator.{CoordinatorHeader, header_in, spell_header}
use Rattle.salt_bytes.specs.Generations.{Blank, Counts, IsRead, LogA, LogB, WhichLog, chosen, content_of, follows, next_generation, pair_of, read_or_outside}
use Rattle.salt_bytes.specs.Log.{entries_in}
use Rattle.salt_bytes.specs.Spellable.{IsSpellableHeader}
use Rattle.salt_decisions.proofs.Appended.{other_dev}
use Rattle.salt_decisions.proofs.Contents.{log_bytes}
use Rattle.salt_decisions.specs.Decisions.{BeginsWith, HasSameEntries, IsCounting, IsDecisions, IsSnapshotImage, next_header, snapshot_payload, snapshotted}
use Rattle.salt_decisions.specs.HeaderPayload.{header_with}
use Rattle.salt_decisions.specs.declared.decisions.Decisions.{Decisions}
use Rattle.salt_disk.specs.Disks.{EachImage, FullExactly, FullOnly, IsSettled, IsUnchanged, KeepsOthers, Shrinks, View}
use Rattle.salt_disk.specs.declared.disks.DiskErr.TheVariants.{Failed, Full, Memory, Stopped}
use Rattle.salt_disk.specs.declared.disks.DiskErr.{DiskErr}
use Rattle.salt_gatelog.specs.Log as gates
use Rattle.salt_gatelog.specs.Log.{IsLog}
use Rattle.salt_gatelog.specs.declared.log.GateLog.{GateLog}
use Rattle.salt_stands.proofs.Pairs.{is_read_a, is_read_b, pair_same}
use Rattle.salt_stands.specs.Coordinator.{Logs, coordinator_pair, device_of}
use Rattle.salt_stands.specs.CoordinatorLog.{CoordinatorLog, coordinator_generation, coordinator_in, told_by_header, with_told}
use Rattle.salt_stands.specs.Pieces.{IsSameAt, other_log}
use Rattle.salt_stands.specs.Stands.{logs_of}
use Rattle.std.proofs.Common.{IsTrue, List, None, Option, Some, [], ap, arith, false, inl, inr, refl, subst, sym, true, ℕ, ◌<◌, ◌≡◌, ◌≤◌, ◌⊎◌, ◌∙◌, ◌∷◌}
use Rattle.std.proofs.lemmas.Bool.Decides.{Decides-eqb, nat_tests}
use Rattle.std.specs.Prelude.{nat_le, option_and_then}

-- THE NEXT GENERATION COUNTS

next_follows : (n : ℕ) → follows n (next_generation n) ≡ true
next_follows n = (Decides-eqb (next_generation n) (next_generation n)).1 refl

-- no generation is the next after its next
not_back : (n : ℕ) → follows (next_generation n) n ≡ false
not_back n = grind (arith, nat_tests)

pub next_is_some : (n : ℕ) → nat_le 1 (next_generation n) ≡ true
next_is_some n = grind (arith, nat_tests)

module _ {L : Type 0} (generation : L → ℕ) (read : List (List ℕ) → Option L) (log next : L) (payload : List ℕ) (reads : read (payload ∷ []) ≡ Some next) (g : generation next ≡ next_generation (generation log)) where
  next_b : pair_of generation (IsRead log) (IsRead next) ≡ Counts LogB next
  next_b = ap (λ b. chosen b (follows (generation next) (generation log)) log next) (ap (λ n. follows (generation log) n) g ∙ next_follows (generation log))

  next_a : pair_of generation (IsRead next) (IsRead log) ≡ Counts LogA next
  next_a =
      ap (λ b. chosen b (follows (generation log) (generation next)) next log) (ap (λ n. follows n (generation log)) g ∙ not_back (generation log))
      ∙ ap (λ b. chosen false b next log) (ap (λ n. follows (generation log) n) g ∙ next_follows (generation log))

  -- the other log holds the next generation's header alone
  pair_next : (old new : Logs) (which : WhichLog) → pair_of generation (content_of read (old 0)) (content_of read (old 1)) ≡ Counts which log
      → new (device_of 0 (other_log which)) ≡ Some (payload ∷ []) → IsSameAt (device_of 0 which) old new
      → pair_of generation (content_of read (new 0)) (content_of read (new 1)) ≡ Counts (other_log which) next
  pair_next old new LogA counts is same =
      let was : content_of read (new 0) ≡ IsRead log = ap (content_of read) same ∙ is_read_a generation (content_of read (old 0)) (content_of read (old 1)) log counts in
      let now : content_of read (new 1) ≡ IsRead next = ap (content_of read) is ∙ ap read_or_outside reads in
      ap (λ x. pair_of generation x (content_of read (new 1))) was ∙ ap (λ x. pair_of generation (IsRead log) x) now ∙ next_b
  pair_next old new LogB counts is same =
      let was : content_of read (new 1) ≡ IsRead log = ap (content_of read) same ∙ is_read_b generation (content_of read (old 0)) (content_of read (old 1)) log counts in
      let now : content_of read (new 0) ≡ IsRead next = ap (content_of read) is ∙ ap read_or_outside reads in
      ap (λ x. pair_of generation x (content_of read (new 1))) now ∙ ap (λ x. pair_of generation (IsRead next) x) was ∙ next_a

-- the other log is made blank
module _ {L : Type 0} (generation : L → ℕ) (read : List (List ℕ) → Option L) (old new : Logs) (log : L) where
  pair_alone : (which : WhichLog) → pair_of generation (content_of read (old 0)) (content_of read (old 1)) ≡ Counts which log → new (device_of 0 (other_log which)) ≡ Some [] → IsSameAt (device_of 0 which) old new
      → pair_of generation (content_of read (new 0)) (content_of read (new 1)) ≡ Counts which log
  pair_alone LogA counts is same =
      let was : content_of read (new 0) ≡ IsRead log = ap (content_of read) same ∙ is_read_a generation (content_of read (old 0)) (content_of read (old 1)) log counts in
      ap (λ x. pair_of generation x (content_of read (new 1))) was ∙ ap (λ o. pair_of generation (IsRead log) (content_of read o)) is
  pair_alone LogB counts is same =
      let was : content_of read (new 1) ≡ IsRead log = ap (content_of read) same ∙ is_read_b generation (content_of read (old 0)) (content_of read (old 1)) log counts in
      ap (λ o. pair_of generation (content_of read o) (content_of read (new 1))) is ∙ ap (λ x. pair_of generation Blank x) was

settled_kept : (d e : View) (dev : ℕ) → IsUnchanged d e dev → IsSettled d dev → IsSettled e dev
settled_kept d e dev same settled c left = settled c (same.images c left) ∙ sym same.bytes

twice : (d : View) (which : WhichLog) → IsSettled d (device_of 0 which) → IsSettled d (device_of 0 (other_log (other_log which)))
twice d LogA h = h
twice d LogB h = h

pub other_known : (which : WhichLog) (n : ℕ) → 1 < n → device_of 0 (other_log which) < n
other_known LogA n h = h
other_known LogB n h = omega (arith, h)

pub apart_from : (which : WhichLog) → ¬ (device_of 0 which ≡ device_of 0 (other_log which))
apart_from which e = other_dev which (sym e)

module _ (d0 : View) (x : Decisions) (which : WhichLog) (log : CoordinatorLog) (h : IsDecisions d0 x which log) where
  apart : ¬ (device_of 0 which ≡ device_of 0 (other_log which))
  apart e = apart_from which e

  settled : IsSettled d0 (device_of 0 which)
  settled = subst (λ dev. IsSettled d0 dev) h.counting.device h.counting.is_log.settled

  same_header : header_with (next_generation x.generation) x.shape x.boot x.decisions x.definitions x.conts ≡ next_header log x.conts
  same_header = λ i. record {
    format = 3;
    generation = next_generation (h.holds.generation i);
    shape = h.holds.shape i;
    boot = h.holds.boot i;
    decisions = h.holds.decisions i;
    definitions = h.holds.definitions i;
    conts = x.conts;
  }

  -- the header that is spelled is the log's next one
  pub payload_is : snapshot_payload x ≡ spell_header (next_header log x.conts)
  payload_is = ap spell_header same_header

  -- what it leaves of the log that counted
  pub counting_images : (e : View) → Shrinks d0 e (device_of 0 which) → EachImage e (device_of 0 which) (HasSameEntries (d0.bytes (device_of 0 which)))
  counting_images e shrinks told c left = ap entries_in (settled c (shrinks c left))

  pub header_reads : IsSpellableHeader (header_with (next_generation x.generation) x.shape x.boot x.decisions x.definitions x.conts) → header_in (snapshot_payload x) ≡ Some (next_header log x.conts)
  header_reads good = reads_header (header_with (next_generation x.generation) x.shape x.boot x.decisions x.definitions x.conts) good ∙ ap (λ (k : CoordinatorHeader). Some k) same_header

  -- WHERE IT IS FULL the log counts still: both logs are as they were, or the other one is blank
  pub counts_still : (e : View) → e.bytes (device_of 0 which) ≡ d0.bytes (device_of 0 which) → e.bytes (device_of 0 (other_log which)) ≡ d0.bytes (device_of 0 (other_log which)) → IsTrue d0.told
      → coordinator_pair (logs_of e.bytes) ≡ Counts which log
  counts_still e own other told = same which own other ∙ h.counting.counts told
    where
      same : (w : WhichLog) → e.bytes (device_of 0 w) ≡ d0.bytes (device_of 0 w) → e.bytes (device_of 0 (other_log w)) ≡ d0.bytes (device_of 0 (other_log w)) → coordinator_pair (logs_of e.bytes) ≡ coordinator_pair (logs_of d0.bytes)
      same LogA a b = pair_same coordinator_generation coordinator_in 0 (logs_of d0.bytes) (logs_of e.bytes) (ap entries_in a) (ap entries_in b)
      same LogB b a = pair_same coordinator_generation coordinator_in 0 (logs_of d0.bytes) (logs_of e.bytes) (ap entries_in a) (ap entries_in b)

  pub counts_alone : (e : View) → e.bytes (device_of 0 which) ≡ d0.bytes (device_of 0 which) → entries_in (e.bytes (device_of 0 (other_log which))) ≡ Some [] → IsTrue d0.told → coordinator_pair (logs_of e.bytes) ≡ Counts which log
  counts_alone e own blank told = pair_alone coordinator_generation coordinator_in (logs_of d0.bytes) (logs_of e.bytes) log which (h.counting.counts told) blank (ap entries_in own)

  module _ (d1 d2 : View) (gate gate' : GateLog) (payload : List ℕ)
      (is : payload ≡ spell_header (header_with (next_generation x.generation) x.shape x.boot x.decisions x.definitions x.conts))
      (good : IsSpellableHeader (header_with (next_generation x.generation) x.shape x.boot x.decisions x.definitions x.conts))
      (device : gates.device_of gate ≡ device_of 0 (other_log which)) (first : KeepsOthers (device_of 0 (other_log which)) d0 d1 None) (second : KeepsOthers (device_of 0 (other_log which)) d1 d2 None)
      (same : gates.device_of gate' ≡ gates.device_of gate) (is_log : IsLog d2 gate' (payload ∷ [])) where
    reads : header_in payload ≡ Some (next_header log x.conts)
    reads = ap header_in is ∙ header_reads good

    pub snapshot_counts : IsCounting d2 gate' (other_log which) (snapshotted log x.conts)
    snapshot_counts = record {
      entries = payload ∷ [];
      is_log = is_log;
      device = same ∙ device;
      known = omega (arith, h.counting.known, first.shape.count, second.shape.count);
      other = twice d2 which (settled_kept d1 d2 (device_of 0 which) (second.kept (device_of 0 which) apart) (settled_kept d0 d1 (device_of 0 which) (first.kept (device_of 0 which) apart) settled));
      counts = λ told.
          pair_next coordinator_generation coordinator_in log (snapshotted log x.conts) payload (ap (option_and_then (λ k. with_told k (Some (told_by_header k)))) reads) refl (logs_of d0.bytes) (logs_of d2.bytes) which
          (h.counting.counts (sym first.shape.told ∙ sym second.shape.told ∙ told))
          (ap (λ dev. entries_in (d2.bytes dev)) (sym device ∙ sym same) ∙ log_bytes d2 gate' (payload ∷ []) told is_log)
          (ap entries_in ((second.kept (device_of 0 which) apart).bytes ∙ (first.kept (device_of 0 which) apart).bytes));
    }

    pub snapshot_begins : BeginsWith d2 (device_of 0 (other_log which)) (next_header log x.conts) payload
    snapshot_begins = record {
      entries = λ told. ap (λ dev. entries_in (d2.bytes dev)) (sym device ∙ sym same) ∙ log_bytes d2 gate' (payload ∷ []) told is_log;
      reads = reads;
    }

-- WHAT IT LEAVES of the other log's device

pub still_there : (e : View) (dev : ℕ) (header : CoordinatorHeader) (payload : List ℕ) → IsSettled e dev → EachImage e dev (IsSnapshotImage (e.bytes dev) header payload)
still_there e dev header payload settled told c left = inl (settled c left)

pub being_blanked : (e : View) (dev : ℕ) (before : List ℕ) (header : CoordinatorHeader) (payload : List ℕ) → EachImage e dev (λ c. (entries_in c ≡ Some []) ⊎ (c ≡ before)) → EachImage e dev (IsSnapshotImage before header payload)
being_blanked e dev before header payload each told c left = by (each told c left)
  where
    by : (entries_in c ≡ Some []) ⊎ (c ≡ before) → IsSnapshotImage before header payload c
    by (inl blank) = inr (inl blank)
    by (inr same) = inl same

pub being_begun : (e : View) (gate : GateLog) (dev : ℕ) (before : List ℕ) (header : CoordinatorHeader) (payload spelled : List ℕ) → gates.device_of gate ≡ dev → payload ≡ spelled → header_in spelled ≡ Some header
    → EachImage e (gates.device_of gate) (gates.IsBeforeOrWith [] payload) → EachImage e dev (IsSnapshotImage before header spelled)
being_begun e gate dev before header payload spelled device same reads each = subst (λ k. EachImage e k (IsSnapshotImage before header spelled)) device (λ told c left. by c (subst (λ p. EachImage e (gates.device_of gate) (gates.IsBeforeOrWith [] p)) same each told c left))
  where
    by : (c : List ℕ) → gates.IsBeforeOrWith [] spelled c → IsSnapshotImage before header spelled c
    by c (inl blank) = inr (inl blank)
    by c (inr begun) = inr (inr (begun, reads))

-- WHERE IT IS FULL

pub full_made : (dev limit end : ℕ) (answer : Option DiskErr) → 1 ≤ end → FullOnly dev limit 1 answer → FullOnly dev limit end answer
full_made dev limit end None low h = tt
full_made dev limit end (Some Failed) low h = tt
full_made dev limit end (Some Stopped) low h = tt
full_made dev limit end (Some (Full n)) low h = (h.0, omega (arith, low, h.1))
full_made dev limit end (Some Memory) low h = tt

pub full_appended : (dev limit limit' end end' : ℕ) (answer : Option DiskErr) → limit' ≡ limit → end' ≡ end → FullExactly dev limit' end' answer → FullOnly dev limit end answer
full_appended dev limit limit' end end' None l e h = tt
full_appended dev limit limit' end end' (Some Failed) l e h = tt
full_appended dev limit limit' end end' (Some Stopped) l e h = tt
full_appended dev limit limit' end end' (Some (Full n)) l e h = (h.0, omega (arith, l, e, h.1))
full_appended dev limit limit' end end' (Some Memory) l e h = tt
