-- A partition that was made.
use Rattle.salt_bytes.proofs.Logs.{reads_partition_header}
use Rattle.salt_bytes.specs.Generations.{LogA, content_of, pair_of, read_or_outside}
use Rattle.salt_bytes.specs.Log.{entries_in}
use Rattle.salt_bytes.specs.Partition.{partition_header_in, spell_partition_header}
use Rattle.salt_disk.proofs.CallAfterCall.{keeps_on, keeps_wider, kept_on}
use Rattle.salt_disk.specs.Disks.{EachImage, FullExactly, FullOnly, IsSettled, IsUnchanged, KeepsAll, KeepsBut, KeepsOthers, OnlyFails, SameShape, View}
use Rattle.salt_disk.specs.declared.disks.DiskErr.TheVariants.{Failed, Full, Memory, Stopped}
use Rattle.salt_disk.specs.declared.disks.DiskErr.{DiskErr}
use Rattle.salt_gatelog.specs.Log.{HasClosedGate, IsBeforeOrWith, IsLog}
use Rattle.salt_gatelog.specs.declared.log.GateLog.{GateLog}
use Rattle.salt_checkpoint.specs.Checkpoints.{NamedSettled}
use Rattle.salt_codec.specs.Entries.{header_of}
use Rattle.salt_model.specs.Tables.{no_rows, with_changes}
use Rattle.salt_partition.proofs.Lasts.{no_last}
use Rattle.salt_paged.proofs.Standing.{entries_stand, settled_kept}
use Rattle.salt_paged.proofs.Paged.{store_kept}
use Rattle.salt_partition.specs.Choices.{which_of}
use Rattle.salt_partition.specs.Openings.{FullAtLogs}
use Rattle.salt_paged.specs.Openings.{AreBegun}
use Rattle.salt_paged.specs.Partitions.{IsPartition}
use Rattle.salt_paged.specs.declared.partition.Partition.{Partition}
use Rattle.salt_rows.specs.Stores.{IsRowStore}
use Rattle.salt_stands.proofs.FirstOpening.{is_created}
use Rattle.salt_stands.specs.FirstOpening.{IsCreated, first_part_header, first_view}
use Rattle.salt_stands.specs.LogDevices.{IsPartitionLog}
use Rattle.salt_stands.specs.Partition.{pages_device, part_device}
use Rattle.salt_stands.specs.PartitionLog.{own_log, partition_generation, partition_in, with_prepared}
use Rattle.std.specs.Bool.{then_some}
use Rattle.std.specs.Prelude.{option_and_then}
use Rattle.std.proofs.Common.{Bool, List, None, Option, Some, [], ap, arith, inl, inr, refl, subst, sym, ℕ, ◌+◌, ◌<◌, ◌≡◌, ◌≤◌, ◌⊎◌, ◌∙◌, ◌∷◌}
use Rattle.std.proofs.lemmas.Bool.{eq-eqb}

reads_first : (part : ℕ) → partition_in part (spell_partition_header (first_part_header 2 part) ∷ []) ≡ Some (record { header = first_part_header 2 part; prepared = [] })
reads_first part =
    let h = first_part_header 2 part in
    let read : partition_header_in (spell_partition_header h) ≡ Some h = reads_partition_header h (record { format = refl; generation = omega arith; first = refl; count = omega arith; sides = refl }) in
    ap (option_and_then (λ h. own_log part h [])) read
    ∙ ap (λ (b : Bool). option_and_then (λ own. with_prepared own (Some [])) (then_some b h)) (eq-eqb part part refl)

module _ (d0 d1 d2 e : View) (part : ℕ) (first : KeepsOthers (part_device part + 1) d0 d1 None) (second : KeepsOthers (part_device part) d1 d2 None) (third : KeepsOthers (part_device part) d2 e None) where
  pub made_others : KeepsBut (IsPartitionLog part) d0 e None
  made_others =
      let a = part_device part in
      let logs = IsPartitionLog part in
      keeps_on logs d0 d2 e None
      (keeps_on logs d0 d1 d2 None (keeps_wider (λ dev. dev ≡ a + 1) logs d0 d1 None (λ dev is. inr is) first) (keeps_wider (λ dev. dev ≡ a) logs d1 d2 None (λ dev is. inl is) second))
      (keeps_wider (λ dev. dev ≡ a) logs d2 e None (λ dev is. inl is) third)

  pub begun : (other log : GateLog) (header : List ℕ) → other.dev ≡ part_device part + 1 → IsLog d1 other [] → log.dev ≡ part_device part → IsLog e log (header ∷ []) → AreBegun e part log header
  begun other log header other_is blank log_is is_log =
      let a = part_device part in
      let apart : a + 1 ≡ a → ⊥ = λ same. omega (arith, same) in
      let kept : IsUnchanged d1 e (a + 1) = kept_on d1 d2 e (a + 1) (second.kept (a + 1) apart) (third.kept (a + 1) apart) in
      record {
        device = log_is;
        is_log = is_log;
        other = settled_kept d1 e (a + 1) kept (subst (λ (k : ℕ). IsSettled d1 k) other_is blank.settled);
        blank = λ now.
            let told1 = sym second.shape.told ∙ sym third.shape.told ∙ now in
            ap entries_in kept.bytes ∙ subst (λ (k : ℕ). entries_in (d1.bytes k) ≡ Some []) other_is (entries_stand d1 other [] blank told1);
      }

-- THE PARTITION that they are, with no page

no_page_named : (d : View) (part : ℕ) → NamedSettled [] d (pages_device part)
no_page_named d part c left = record { each = λ page side named. cc }

pub made : (d e : View) (x : Partition) (part : ℕ) (header : List ℕ) → pages_device part < d.count → KeepsBut (IsPartitionLog part) d e None → AreBegun e part x.log header → header ≡ spell_partition_header (first_part_header 2 part)
    → x.part ≡ part → header_of x.header ≡ first_part_header 2 part → which_of x.side ≡ LogA → IsRowStore d x.rows (pages_device part) [] no_rows → IsPartition e x part (first_view 2 part) []
unfolding with_changes
made d e x part header known others are_begun spelled own head at store =
    let a = part_device part in
    let pages : IsUnchanged d e (pages_device part) = others.kept (pages_device part) (pages_apart part) in
    record {
      part = own;
      header = head;
      which = at;
      entries = header ∷ [];
      is_log = are_begun.is_log;
      some = omega arith;
      device = are_begun.device;
      known = omega (arith, known, others.shape.count);
      other = are_begun.other;
      put = tt;
      last = no_last [] x.last;
      rows = store_kept d e x.rows (pages_device part) [] no_rows others.shape pages.bytes store;
      keyed = tt;
      told = λ now.
          let reads : partition_in part (header ∷ []) ≡ Some (first_view 2 part).log = ap (λ (bytes : List ℕ). partition_in part (bytes ∷ [])) spelled ∙ reads_first part in
          let here : entries_in (e.bytes a) ≡ Some (header ∷ []) = subst (λ (k : ℕ). entries_in (e.bytes k) ≡ Some (header ∷ [])) are_begun.device (entries_stand e x.log (header ∷ []) are_begun.is_log now) in
          record {
            reads = reads;
            counts = ap (λ o. pair_of partition_generation (content_of (partition_in part) o) (content_of (partition_in part) (entries_in (e.bytes (a + 1))))) here
                ∙ ap (λ o. pair_of partition_generation (read_or_outside (partition_in part (header ∷ []))) (content_of (partition_in part) o)) (are_begun.blank now)
                ∙ ap (λ o. pair_of partition_generation (read_or_outside o) (content_of (partition_in part) (Some []))) reads;
            pages = [];
            named = refl;
            rows = refl;
            apart = refl;
            settled = no_page_named e part;
          };
    }
  where
    pages_apart : (p : ℕ) → IsPartitionLog p (pages_device p) → ⊥
    pages_apart p (inl same) = omega (arith, same)
    pages_apart p (inr same) = omega (arith, same)

-- WHICH LIMIT IS PASSED, where a call ends with this error

module _ (d e : View) (a end : ℕ) (shape : SameShape d e) where
  -- the byte by which log B is created
  pub full_other : (b : ℕ) (error : DiskErr) → b ≡ a + 1 → FullOnly b (d.limit b) 1 (Some error) → (HasClosedGate (d.bytes b) → OnlyFails (Some error)) → ((n : ℕ) → error ≡ Full n → IsUnchanged d e b)
      → FullAtLogs e a end (Some error)
  full_other b Failed at full closed untouched = tt
  full_other b Stopped at full closed untouched = tt
  full_other b Memory at full closed untouched = tt
  full_other b (Full n) at full closed untouched =
      let same : e.bytes n ≡ d.bytes b = ap e.bytes full.0 ∙ (untouched n refl).bytes in
      let created : IsCreated (d.bytes b) = is_created (d.bytes b) (λ gate rest shut is. closed (record { gate = gate; rest = rest; is_closed = shut; bytes_are = is })) in
      inr (full.0 ∙ at, subst IsCreated (sym same) created, omega (arith, full.1, ap e.limit full.0, shape.limit b))

  -- that by which log A is
  pub full_first : (k : ℕ) (error : DiskErr) → k ≡ a → 1 ≤ end → FullOnly k (d.limit k) 1 (Some error) → FullAtLogs e a end (Some error)
  full_first k Failed at some full = tt
  full_first k Stopped at some full = tt
  full_first k Memory at some full = tt
  full_first k (Full n) at some full = inl (full.0 ∙ at, omega (arith, full.1, ap e.limit full.0, shape.limit k, some))

  -- the header that is appended there
  pub full_appended : (k there : ℕ) (error : DiskErr) → k ≡ a → there ≡ end → FullExactly k (d.limit k) there (Some error) → FullAtLogs e a end (Some error)
  full_appended k there Failed at is full = tt
  full_appended k there Stopped at is full = tt
  full_appended k there Memory at is full = tt
  full_appended k there (Full n) at is full = inl (full.0 ∙ at, omega (arith, full.1, is, ap e.limit full.0, shape.limit k))

-- BEHIND A CALL THAT WRITES NOTHING, which finds the store

module _ (d0 d1 e : View) (part : ℕ) (kept : KeepsAll d0 d1 None) where
  same_at : (dev : ℕ) → d1.bytes dev ≡ d0.bytes dev
  same_at dev = (kept.kept dev (λ none. none)).bytes

  pub behind_others : (answer : Option DiskErr) → KeepsBut (IsPartitionLog part) d1 e answer → KeepsBut (IsPartitionLog part) d0 e answer
  behind_others answer others = keeps_on (IsPartitionLog part) d0 d1 e answer (keeps_wider (λ _. ⊥) (IsPartitionLog part) d0 d1 None (λ dev none. absurd none) kept) others

  pub behind_a : (header bytes : List ℕ) → bytes ≡ header → EachImage e (part_device part) (λ c. (c ≡ d1.bytes (part_device part)) ⊎ IsBeforeOrWith [] bytes c) → EachImage e (part_device part) (λ c. (c ≡ d0.bytes (part_device part)) ⊎ IsBeforeOrWith [] header c)
  behind_a header bytes same each told c left =
      subst (λ (old : List ℕ). (c ≡ old) ⊎ IsBeforeOrWith [] header c) (same_at (part_device part)) (subst (λ (b : List ℕ). (c ≡ d1.bytes (part_device part)) ⊎ IsBeforeOrWith [] b c) same (each told c left))

  pub behind_b : EachImage e (part_device part + 1) (λ c. (entries_in c ≡ Some []) ⊎ (c ≡ d1.bytes (part_device part + 1))) → EachImage e (part_device part + 1) (λ c. (entries_in c ≡ Some []) ⊎ (c ≡ d0.bytes (part_device part + 1)))
  behind_b each told c left = subst (λ (old : List ℕ). (entries_in c ≡ Some []) ⊎ (c ≡ old)) (same_at (part_device part + 1)) (each told c left)

-- while it only reads, each image is the one from before
pub reading_a : (d e : View) (a : ℕ) (answer : Option DiskErr) (header : List ℕ) → IsSettled d a → KeepsAll d e answer → EachImage e a (λ c. (c ≡ d.bytes a) ⊎ IsBeforeOrWith [] header c)
reading_a d e a answer header settled kept told c left = inl (settled c (kept.images a (λ none. none) c left))

pub reading_b : (d e : View) (b : ℕ) (answer : Option DiskErr) → IsSettled d b → KeepsAll d e answer → EachImage e b (λ c. (entries_in c ≡ Some []) ⊎ (c ≡ d.bytes b))
reading_b d e b answer settled kept told c left = inr (settled c (kept.images b (λ none. none) c left))

pub full_reading : (e : View) (a end : ℕ) (error : DiskErr) → OnlyFails (Some error) → FullAtLogs e a end (Some error)
full_reading e a end Failed fails = tt
full_reading e a end Stopped fails = tt
full_reading e a end Memory fails = tt
full_reading e a end (Full n) fails = absurd fails
