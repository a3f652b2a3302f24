-- A partition that was made.
use Rattle.salt_bytes.proofs.Logs.{reads_partition_header}
use Rattle.salt_bytes.specs.Generations.{content_of, pair_of, read_or_outside}
use Rattle.salt_bytes.specs.Log.{entries_in}
use Rattle.salt_bytes.specs.Partition.{partition_header_in, spell_partition_header}
use Rattle.salt_disk.proofs.CallAfterCall.{keeps_on, keeps_wider, kept_on}
use Rattle.salt_disk.specs.Disks.{FullExactly, FullOnly, IsSettled, IsUnchanged, KeepsBut, KeepsOthers, OnlyFails, SameShape, View}
use Rattle.salt_disk.specs.declared.disks.DiskErr.TheVariants.{Failed, Full, Memory, Stopped}
use Rattle.salt_disk.specs.declared.disks.DiskErr.{DiskErr}
use Rattle.salt_gatelog.specs.Log as gates
use Rattle.salt_gatelog.specs.Log.{HasClosedGate, IsLog}
use Rattle.salt_gatelog.specs.declared.log.GateLog.{GateLog}
use Rattle.salt_model.specs.Tables.{no_rows, with_changes}
use Rattle.salt_partition.proofs.Lasts.{no_last}
use Rattle.salt_partition.proofs.Standing.{entries_stand, settled_kept}
use Rattle.salt_partition.specs.Openings.{FullAtLogs}
use Rattle.salt_partition.specs.Partitions.{IsPartition, log_device}
use Rattle.salt_partition.specs.declared.partition.Partition.{Partition}
use Rattle.salt_stands.proofs.FirstOpening.{is_created}
use Rattle.salt_stands.specs.FirstOpening.{IsCreated, first_part_header, first_view}
use Rattle.salt_stands.specs.LogDevices.{IsPartitionLog}
use Rattle.salt_stands.specs.Partition.{pages_device, part_device}
use Rattle.salt_stands.specs.PartitionLog.{own_log, partition_generation, partition_in, with_prepared}
use Rattle.std.proofs.Common.{Bool, List, None, Some, [], ap, arith, inl, inr, refl, subst, sym, true, ℕ, ◌+◌, ◌++◌, ◌<◌, ◌≡◌, ◌≤◌, ◌∙◌, ◌∷◌}
use Rattle.std.proofs.lemmas.Bool.{eq-eqb}
use Rattle.std.specs.Bool.{then_some}
use Rattle.std.specs.Prelude.{option_and_then}

no_changes : [] ≡ (with_changes [] no_rows).list
unfolding with_changes
no_changes = refl

reads_first : (part : ℕ) → partition_in part (spell_partition_header (first_part_header 2 part) ∷ []) ≡ Some (record { header = first_part_header 2 part; prepared = [] })
reads_first part =
    let h = first_part_header 2 part in
    let read : partition_header_in (spell_partition_header h) ≡ Some h = reads_partition_header h (record { format = refl; generation = omega arith; first = refl; count = omega arith; sides = refl }) in
    ap (option_and_then (λ h. own_log part h [])) read
    ∙ ap (λ (b : Bool). option_and_then (λ own. with_prepared own (Some [])) (then_some b h)) (eq-eqb part part refl)

module _ (d0 d1 d2 e : View) (part : ℕ) (first : KeepsOthers (part_device part + 1) d0 d1 None) (second : KeepsOthers (part_device part) d1 d2 None) (third : KeepsOthers (part_device part) d2 e None) where
  pub made_others : KeepsBut (IsPartitionLog part) d0 e None
  made_others =
      let a = part_device part in
      let logs = IsPartitionLog part in
      keeps_on logs d0 d2 e None
      (keeps_on logs d0 d1 d2 None (keeps_wider (λ dev. dev ≡ a + 1) logs d0 d1 None (λ dev is. inr is) first) (keeps_wider (λ dev. dev ≡ a) logs d1 d2 None (λ dev is. inl is) second))
      (keeps_wider (λ dev. dev ≡ a) logs d2 e None (λ dev is. inl is) third)

  pub made : (x : Partition) (other : GateLog) (header : List ℕ) → pages_device part < d0.count
      → gates.device_of other ≡ part_device part + 1 → IsLog d1 other [] → log_device x ≡ part_device part → IsLog e x.log ([] ++ header ∷ []) → header ≡ spell_partition_header (first_part_header 2 part)
      → x.part ≡ part → x.nulls ≡ true → x.rows ≡ [] → IsPartition e x part (first_view 2 part) []
  made x other header known other_is blank log_is is_log spelled own nulls rows =
      let a = part_device part in
      let apart : a + 1 ≡ a → ⊥ = λ same. omega (arith, same) in
      let kept : IsUnchanged d1 e (a + 1) = kept_on d1 d2 e (a + 1) (second.kept (a + 1) apart) (third.kept (a + 1) apart) in
      let settled : IsSettled d1 (a + 1) = subst (λ (k : ℕ). IsSettled d1 k) other_is blank.settled in
      record {
        part = own;
        entries = [] ++ header ∷ [];
        is_log = is_log;
        some = omega arith;
        device = log_is;
        known = omega (arith, known, first.shape.count, second.shape.count, third.shape.count);
        other = settled_kept d1 e (a + 1) kept settled;
        nulls = nulls;
        pages = refl;
        none = refl;
        keyed = tt;
        last = no_last [] x.last;
        rows = rows ∙ no_changes;
        told = λ now.
            let told1 = sym second.shape.told ∙ sym third.shape.told ∙ now in
            let reads : partition_in part (header ∷ []) ≡ Some (first_view 2 part).log = ap (λ (bytes : List ℕ). partition_in part (bytes ∷ [])) spelled ∙ reads_first part in
            let here : entries_in (e.bytes a) ≡ Some (header ∷ []) = subst (λ (k : ℕ). entries_in (e.bytes k) ≡ Some (header ∷ [])) log_is (entries_stand e x.log ([] ++ header ∷ []) is_log now) in
            let there : entries_in (e.bytes (a + 1)) ≡ Some [] = ap entries_in kept.bytes ∙ subst (λ (k : ℕ). entries_in (d1.bytes k) ≡ Some []) other_is (entries_stand d1 other [] blank told1) in
            record {
              reads = reads;
              counts = ap (λ o. pair_of partition_generation (content_of (partition_in part) o) (content_of (partition_in part) (entries_in (e.bytes (a + 1))))) here
                  ∙ ap (λ o. pair_of partition_generation (read_or_outside (partition_in part (header ∷ []))) (content_of (partition_in part) o)) there
                  ∙ ap (λ o. pair_of partition_generation (read_or_outside o) (content_of (partition_in part) (Some []))) reads;
            };
      }

-- WHICH LIMIT IS PASSED, where a call ends with this error

module _ (d e : View) (a end : ℕ) (shape : SameShape d e) where
  -- the byte by which log B is created
  pub full_other : (b : ℕ) (error : DiskErr) → b ≡ a + 1 → FullOnly b (d.limit b) 1 (Some error) → (HasClosedGate (d.bytes b) → OnlyFails (Some error)) → ((n : ℕ) → error ≡ Full n → IsUnchanged d e b)
      → FullAtLogs e a end (Some error)
  full_other b Failed at full closed untouched = tt
  full_other b Stopped at full closed untouched = tt
  full_other b Memory at full closed untouched = tt
  full_other b (Full n) at full closed untouched =
      let same : e.bytes n ≡ d.bytes b = ap e.bytes full.0 ∙ (untouched n refl).bytes in
      let created : IsCreated (d.bytes b) = is_created (d.bytes b) (λ gate rest shut is. closed (record { gate = gate; rest = rest; is_closed = shut; bytes_are = is })) in
      inr (full.0 ∙ at, subst IsCreated (sym same) created, omega (arith, full.1, ap e.limit full.0, shape.limit b))

  -- that by which log A is
  pub full_first : (k : ℕ) (error : DiskErr) → k ≡ a → 1 ≤ end → FullOnly k (d.limit k) 1 (Some error) → FullAtLogs e a end (Some error)
  full_first k Failed at some full = tt
  full_first k Stopped at some full = tt
  full_first k Memory at some full = tt
  full_first k (Full n) at some full = inl (full.0 ∙ at, omega (arith, full.1, ap e.limit full.0, shape.limit k, some))

  -- the header that is appended there
  pub full_appended : (k there : ℕ) (error : DiskErr) → k ≡ a → there ≡ end → FullExactly k (d.limit k) there (Some error) → FullAtLogs e a end (Some error)
  full_appended k there Failed at is full = tt
  full_appended k there Stopped at is full = tt
  full_appended k there Memory at is full = tt
  full_appended k there (Full n) at is full = inl (full.0 ∙ at, omega (arith, full.1, is, ap e.limit full.0, shape.limit k))
