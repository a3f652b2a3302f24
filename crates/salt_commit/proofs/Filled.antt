-- Where a store meets a full device, the devices behind the call tell it.
use Rattle.salt_bytes.specs.Coordinator.{CoordinatorEntry, Decides, spell_entry}
use Rattle.salt_bytes.specs.Generations.{LogA, LogB, WhichLog}
use Rattle.salt_bytes.specs.Log.{entries_in}
use Rattle.salt_bytes.specs.Partition.{spell_prepared}
use Rattle.salt_commit.proofs.Shared.{share_is}
use Rattle.salt_commit.proofs.Standing.{apart_from_other, apart_from_part}
use Rattle.salt_commit.specs.Commits.{IsCommitDevice, IsCommitLog, UnitPassesLimit, shares_in}
use Rattle.salt_commit.specs.Full.{CommitFills, EntryOrRoomFills, next_unit}
use Rattle.salt_commit.specs.Shares.{mask_of, shares_of}
use Rattle.salt_commit.specs.Stores.{IsStore, IsStoreDevice, coordinator_device, coordinator_gate, decided_by, reading, shape_of_store}
use Rattle.salt_commit.specs.declared.store.Store.{Store}
use Rattle.salt_decisions.proofs.Contents.{log_bytes}
use Rattle.salt_decisions.specs.Decisions as decisions
use Rattle.salt_disk.specs.Disks.{FullExactly, FullWhere, IsUnchanged, KeepsBut, KeepsOthers, SameShape, View}
use Rattle.salt_disk.specs.declared.disks.DiskErr.TheVariants.{Failed, Full, Memory, Stopped}
use Rattle.salt_disk.specs.declared.disks.DiskErr.{DiskErr}
use Rattle.salt_gatelog.specs.Log as gates
use Rattle.salt_gatelog.specs.Log.{IsLog}
use Rattle.salt_gatelog.specs.declared.log.GateLog.{GateLog}
use Rattle.salt_model.specs.Kept.{Definition}
use Rattle.salt_model.specs.Words.{is_empty}
use Rattle.salt_paged.specs.Partitions.{IsPartition, log_device, log_gate}
use Rattle.salt_paged.specs.declared.partition.Partition.{Partition}
use Rattle.salt_partition.specs.Partitions.{prepared}
use Rattle.salt_parts.proofs.Lists.{if_some}
use Rattle.salt_promise.specs.Filling.{EntryFills, IsTooLong, ShareFills}
use Rattle.salt_shares.specs.Prepares.{IsLogOfShares}
use Rattle.salt_shares.specs.Shares.{has_changes, share_at}
use Rattle.salt_stands.proofs.Pairs.{pair_same}
use Rattle.salt_stands.specs.Coordinator.{Coordinator, coordinator_pair, device_of}
use Rattle.salt_stands.specs.CoordinatorLog.{CoordinatorLog, coordinator_generation, coordinator_in}
use Rattle.salt_stands.specs.LogDevices.{IsCoordinatorLog, IsPartitionLog}
use Rattle.salt_stands.specs.Partition.{pages_device, part_device, part_pair}
use Rattle.salt_stands.specs.PartitionLog.{partition_generation, partition_in}
use Rattle.salt_stands.specs.Pieces.{PartView, other_log}
use Rattle.salt_stands.specs.Placed.{changes_at}
use Rattle.salt_stands.specs.Stands.{logs_of}
use Rattle.salt_values.specs.declared.change.Change.{Change}
use Rattle.salt_values.specs.declared.id.Id.{Id}
use Rattle.salt_place.specs.declared.placement.Shape.{Shape}
use Rattle.std.proofs.Common.{Err, IsTrue, List, Ok, Result, Some, [], ap, arith, false, inl, inr, length, refl, slice_get, subst, sym, true, ℕ, ◌+◌, ◌<◌, ◌≡◌, ◌≢◌, ◌⊎◌, ◌∙◌, ◌∷◌}
use Rattle.std.proofs.lemmas.Option.{slice_get_within}
use Rattle.std.specs.Result.{result_err}

-- a log is too short for an entry behind a call that has left its device as it was
too_long : (m e : View) (log : GateLog) (es : List (List ℕ)) → IsLog m log es → IsTrue m.told → SameShape m e → IsUnchanged m e (gates.device_of log) → (n : ℕ) → n ≡ gates.device_of log → (payload : List ℕ)
    → m.limit (gates.device_of log) < gates.gate_of log + 10 + length payload → IsTooLong e n payload
too_long m e log es is told shape left n at payload over = record {
  entries = es;
  reads = ap (λ (k : ℕ). entries_in (e.bytes k)) at ∙ ap entries_in left.bytes ∙ log_bytes m log es told is;
  over = omega (arith, over, is.end, ap (λ (k : ℕ). e.limit k) at, shape.limit (gates.device_of log));
}

not_empty : (cs : List Change) → has_changes cs ≡ true → is_empty cs ≡ false
not_empty [] h = absurd (cc h)
not_empty (c ∷ cs) h = refl

near : (a : ℕ) (w : WhichLog) → (device_of a w ≡ a) ⊎ (device_of a w ≡ a + 1)
near a LogA = inl refl
near a LogB = inr refl

differ : LogA ≡ LogB → ⊥
differ e = cc

-- the log of a partition that does not count is the counting one of none
other_apart : (v : ℕ → PartView) (p q : ℕ) → device_of (part_device p) (other_log (v p).which) ≢ device_of (part_device q) (v q).which
other_apart v p q same = by (v p).which (v q).which refl refl same
  where
    by : (a b : WhichLog) → (v p).which ≡ a → (v q).which ≡ b → device_of (part_device p) (other_log a) ≡ device_of (part_device q) b → ⊥
    by LogA LogA x y e = omega (arith, e)
    by LogA LogB x y e = let at : p ≡ q = omega (arith, e) in differ (sym x ∙ ap (λ (k : ℕ). (v k).which) at ∙ y)
    by LogB LogA x y e = let at : p ≡ q = omega (arith, e) in differ (sym y ∙ ap (λ (k : ℕ). (v k).which) (sym at) ∙ x)
    by LogB LogB x y e = omega (arith, e)

-- and no log has pages
pages_apart : (p q : ℕ) (w : WhichLog) → device_of (part_device p) w ≢ pages_device q
pages_apart p q LogA e = omega (arith, e)
pages_apart p q LogB e = omega (arith, e)

module _ (m e : View) (y : Store) (which : WhichLog) (c : Coordinator Definition) (v : ℕ → PartView) (is : IsStore reading m y which c v) where
  counting : coordinator_device y ≡ device_of 0 which
  counting = is.decisions.counting.device

  part : (p : ℕ) (q : Partition) → slice_get y.parts p ≡ Some q → IsPartition m q p (v p) (decided_by c p)
  part p q at = if_some (slice_get y.parts p) q (λ z. IsPartition m z p (v p) (decided_by c p)) at (is.parts.each p)

  has_shape : shape_of_store y ≡ c.log.header.shape
  has_shape = is.decisions.holds.shape

  -- WHAT A COMMIT TOUCHES is of the store
  module _ (cs : List Change) where
    pub of_store : (dev : ℕ) → IsCommitDevice y cs dev → IsStoreDevice (shape_of_store y).parts dev
    of_store dev (inl (inl at)) = inl (inl (by which (at ∙ counting)))
      where
        by : (w : WhichLog) → dev ≡ device_of 0 w → IsCoordinatorLog dev
        by LogA same = inl same
        by LogB same = inr same
    of_store dev (inl (inr s)) = inl (inr (record { p = s.p; low = omega (arith, s.low, is.size, ap (λ (k : Shape). k.parts) has_shape); is = by (near (part_device s.p) (v s.p).which) }))
      where
        at : dev ≡ device_of (part_device s.p) (v s.p).which
        at = s.log.device ∙ (part s.p s.x s.at).device

        by : (device_of (part_device s.p) (v s.p).which ≡ part_device s.p) ⊎ (device_of (part_device s.p) (v s.p).which ≡ part_device s.p + 1) → IsPartitionLog s.p dev
        by (inl a) = inl (at ∙ a)
        by (inr b) = inr (at ∙ b)
    of_store dev (inr t) = inr t

    -- the coordinator's other log it does not touch, nor a partition's
    apart_coordinator : IsCommitDevice y cs (device_of 0 (other_log which)) → ⊥
    apart_coordinator (inl (inl at)) = apart_from_other which (at ∙ counting)
    apart_coordinator (inl (inr s)) = by (near (part_device s.p) (v s.p).which)
      where
        at : device_of 0 (other_log which) ≡ device_of (part_device s.p) (v s.p).which
        at = s.log.device ∙ (part s.p s.x s.at).device

        by : (device_of (part_device s.p) (v s.p).which ≡ part_device s.p) ⊎ (device_of (part_device s.p) (v s.p).which ≡ part_device s.p + 1) → ⊥
        by (inl a) = apart_from_part (other_log which) s.p 0 (omega (arith, at, a))
        by (inr b) = apart_from_part (other_log which) s.p 1 (omega (arith, at, b))
    apart_coordinator (inr t) = apart_from_part (other_log which) t.p 2 (omega (arith, t.is))

    apart_part : (p : ℕ) → IsCommitDevice y cs (device_of (part_device p) (other_log (v p).which)) → ⊥
    apart_part p (inl (inl at)) = by (near (part_device p) (other_log (v p).which))
      where
        by : (device_of (part_device p) (other_log (v p).which) ≡ part_device p) ⊎ (device_of (part_device p) (other_log (v p).which) ≡ part_device p + 1) → ⊥
        by (inl a) = apart_from_part which p 0 (omega (arith, a, at, counting))
        by (inr b) = apart_from_part which p 1 (omega (arith, b, at, counting))
    apart_part p (inl (inr s)) = other_apart v p s.p (s.log.device ∙ (part s.p s.x s.at).device)
    apart_part p (inr t) = pages_apart p t.p (other_log (v p).which) t.is

  -- AN ENTRY OF THE COORDINATOR'S that is too long for its log
  module _ (told : IsTrue m.told) (shape : SameShape m e) where
    both_same : (w : WhichLog) → e.bytes (device_of 0 w) ≡ m.bytes (device_of 0 w) → e.bytes (device_of 0 (other_log w)) ≡ m.bytes (device_of 0 (other_log w)) → coordinator_pair (logs_of e.bytes) ≡ coordinator_pair (logs_of m.bytes)
    both_same LogA a b = pair_same coordinator_generation coordinator_in 0 (logs_of m.bytes) (logs_of e.bytes) (ap entries_in a) (ap entries_in b)
    both_same LogB b a = pair_same coordinator_generation coordinator_in 0 (logs_of m.bytes) (logs_of e.bytes) (ap entries_in a) (ap entries_in b)

    pub entry_passes : (entry : CoordinatorLog → CoordinatorEntry) (payload : List ℕ) → payload ≡ spell_entry (entry c.log) → IsUnchanged m e (coordinator_device y) → IsUnchanged m e (device_of 0 (other_log which)) → (n : ℕ) → n ≡ coordinator_device y
        → m.limit (coordinator_device y) < coordinator_gate y + 10 + length payload → EntryFills e entry n
    entry_passes entry payload spells own other n at over = record {
      which = which;
      log = c.log;
      counts = both_same which (subst (IsUnchanged m e) counting own).bytes other.bytes ∙ is.decisions.counting.counts told;
      device = at ∙ counting;
      over = subst (IsTooLong e n) spells (too_long m e y.decisions.gate is.decisions.counting.entries is.decisions.counting.is_log told shape own n at payload over);
    }

    -- A SHARE that is too long for the log of its partition
    parts_same : (p : ℕ) (w : WhichLog) → e.bytes (device_of (part_device p) w) ≡ m.bytes (device_of (part_device p) w) → e.bytes (device_of (part_device p) (other_log w)) ≡ m.bytes (device_of (part_device p) (other_log w))
        → part_pair p (logs_of e.bytes) ≡ part_pair p (logs_of m.bytes)
    parts_same p LogA a b = pair_same partition_generation (partition_in p) (part_device p) (logs_of m.bytes) (logs_of e.bytes) (ap entries_in a) (ap entries_in b)
    parts_same p LogB b a = pair_same partition_generation (partition_in p) (part_device p) (logs_of m.bytes) (logs_of e.bytes) (ap entries_in a) (ap entries_in b)

    module _ (x : Store) (same : shape_of_store x ≡ shape_of_store y) (u : Id) (cs : List Change) (mv : List ℕ) where
      share_passes : (p : ℕ) (q : Partition) (at : slice_get y.parts p ≡ Some q) → IsUnchanged m e (log_device q) → IsUnchanged m e (device_of (part_device p) (other_log (v p).which)) → (n : ℕ) → n ≡ log_device q
          → has_changes (share_at (shares_in y cs) p) ≡ true → m.limit (log_device q) < log_gate q + 10 + length (spell_prepared (prepared u (share_at (shares_in y cs) p))) → ShareFills e (shape_of_store x) u cs n
      share_passes p q at own other n here changed over =
          let z = part p q at in
          let low : p < (shape_of_store y).parts = omega (arith, slice_get_within y.parts p q at, is.size, ap (λ (k : Shape). k.parts) has_shape) in
          let mine : share_at (shares_in y cs) p ≡ changes_at (shape_of_store x) p cs = share_is (shape_of_store y) cs p low ∙ ap (λ (k : Shape). changes_at k p cs) (sym same) in
          record {
            p = p;
            low = omega (arith, low, ap (λ (k : Shape). k.parts) same);
            which = (v p).which;
            log = (v p).log;
            counts = parts_same p (v p).which (subst (IsUnchanged m e) z.device own).bytes other.bytes ∙ (z.told told).counts;
            device = here ∙ z.device;
            changed = not_empty (changes_at (shape_of_store x) p cs) (ap has_changes (sym mine) ∙ changed);
            over = subst (λ (l : List Change). IsTooLong e n (spell_prepared (prepared u l))) mine (too_long m e q.log z.entries z.is_log told shape own n here (spell_prepared (prepared u (share_at (shares_in y cs) p))) over);
          }

      next_same : spell_entry (Decides (decisions.next_decision y.decisions u (mask_of (shares_in y cs)) mv)) ≡ spell_entry (next_unit (shape_of_store x) u cs mv c.log)
      next_same =
          ap (λ (k : ℕ). spell_entry (Decides (record { number = k + 1; unit = u; mask = mask_of (shares_in y cs); move = mv }))) is.decisions.holds.decisions
          ∙ ap (λ (s : Shape). spell_entry (Decides (record { number = c.log.told.decisions + 1; unit = u; mask = mask_of (shares_of s cs); move = mv }))) (sym same)

      -- WHERE A COMMIT meets a full device
      pub commit_passes : (n : ℕ) → KeepsBut (IsCommitDevice y cs) m e (Some (Full n)) → (IsCommitLog y cs n → IsUnchanged m e n) → UnitPassesLimit m.limit y u cs mv n → CommitFills e (shape_of_store x) u cs mv n
      commit_passes n others left (inl d) =
          let own = subst (IsUnchanged m e) d.device (left (inl d.device)) in
          inl (inl (entry_passes (next_unit (shape_of_store x) u cs mv) (spell_entry (Decides (decisions.next_decision y.decisions u (mask_of (shares_in y cs)) mv))) next_same own (others.kept (device_of 0 (other_log which)) (apart_coordinator cs)) n d.device
          (subst (λ (k : ℕ). m.limit k < coordinator_gate y + 10 + length (spell_entry (Decides (decisions.next_decision y.decisions u (mask_of (shares_in y cs)) mv)))) d.device d.over)))
      commit_passes n others left (inr (inl o)) =
          let at = o.passes.log.device in
          let here : IsLogOfShares y.parts (shares_in y cs) (length y.parts) n = record { p = o.p; low = slice_get_within y.parts o.p o.x o.at; x = o.x; at = o.at; log = o.passes.log } in
          let own = subst (IsUnchanged m e) at (left (inr here)) in
          inr (inl (share_passes o.p o.x o.at own (others.kept (device_of (part_device o.p) (other_log (v o.p).which)) (apart_part cs o.p)) n at o.passes.log.changed
          (subst (λ (k : ℕ). m.limit k < log_gate o.x + 10 + length (spell_prepared (prepared u (share_at (shares_in y cs) o.p)))) at o.passes.over)))
      commit_passes n others left (inr (inr t)) = inr (inr (inl (record { p = t.p; low = omega (arith, t.low, ap (λ (k : Shape). k.parts) same); is = t.is })))

      pub commit_full : {T : Type 0} (result : Result T DiskErr) → KeepsBut (IsCommitDevice y cs) m e (result_err result) → ((n : ℕ) → result ≡ Err (Full n) → IsCommitLog y cs n → IsUnchanged m e n)
          → FullWhere (UnitPassesLimit m.limit y u cs mv) (result_err result) → FullWhere (CommitFills e (shape_of_store x) u cs mv) (result_err result)
      commit_full (Ok r) others left full = tt
      commit_full (Err Failed) others left full = tt
      commit_full (Err Stopped) others left full = tt
      commit_full (Err (Full n)) others left full = commit_passes n others (left n refl) full
      commit_full (Err Memory) others left full = tt

    -- where one entry alone is appended
    pub entry_full : {T : Type 0} (x : Store) (entry : CoordinatorLog → CoordinatorEntry) (payload : List ℕ) → payload ≡ spell_entry (entry c.log) → (result : Result T DiskErr) → KeepsOthers (coordinator_device y) m e (result_err result)
        → ((n : ℕ) → result ≡ Err (Full n) → IsUnchanged m e (coordinator_device y)) → FullExactly (coordinator_device y) (m.limit (coordinator_device y)) (coordinator_gate y + 10 + length payload) (result_err result)
        → FullWhere (EntryOrRoomFills e (shape_of_store x) entry) (result_err result)
    entry_full x entry payload spells (Ok r) others left full = tt
    entry_full x entry payload spells (Err Failed) others left full = tt
    entry_full x entry payload spells (Err Stopped) others left full = tt
    entry_full x entry payload spells (Err (Full n)) others left full =
        inl (entry_passes entry payload spells (left n refl) (others.kept (device_of 0 (other_log which)) (λ same. apart_from_other which (same ∙ counting))) n full.0 full.1)
    entry_full x entry payload spells (Err Memory) others left full = tt
