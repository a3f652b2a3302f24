-- A unit is decided: the store with the shares prepared, each image with the decision's entry or without it, and the store after it.
use Rattle.salt_bytes.specs.Coordinator.{Decides, spell_entry}
use Rattle.salt_bytes.specs.Generations.{LogA, LogB, WhichLog}
use Rattle.salt_bytes.specs.Log.{entries_in}
use Rattle.salt_bytes.specs.Partition.{spell_prepared}
use Rattle.salt_bytes.specs.declared.moves.Move.{Move}
use Rattle.salt_commit.proofs.Shared.{mask_bit, share_is}
use Rattle.salt_commit.proofs.Standing.{apart_from_part, each_image, pages_same, part_at, pushed, pushed_here, pushed_there, sound_with, stood}
use Rattle.salt_commit.proofs.Undecided.{IsInHand, decision_reads, may_commit, share_reads, sound_of, spelled}
use Rattle.salt_commit.specs.Commits.{MayCommitUnit}
use Rattle.salt_commit.specs.Shares.{next_decision, shares_of}
use Rattle.salt_commit.specs.Stores.{IsSound, IsStore, StandForEither, decided_by}
use Rattle.salt_commit.specs.Voting.{IsVoteDevice}
use Rattle.salt_commit.specs.declared.store.Store.{Store}
use Rattle.salt_decisions.proofs.Contents.{log_bytes}
use Rattle.salt_decisions.proofs.Framed.{decisions_kept}
use Rattle.salt_decisions.specs.Decisions.{IsBeforeOrWith, IsDecisions, device_in}
use Rattle.salt_disk.specs.Disks.{EachImage, IsUnchanged, KeepsBut, KeepsOthers, View}
use Rattle.salt_disk.specs.declared.disks.DiskErr.{DiskErr}
use Rattle.salt_paged.proofs.Framed.{may_apply}
use Rattle.salt_paged.specs.Partitions.{ArePartitions, IsPartition}
use Rattle.salt_partition.specs.Partitions.{prepared}
use Rattle.salt_paged.specs.declared.partition.Partition.{Partition}
use Rattle.salt_parts.proofs.Lists.{if_some, make_some}
use Rattle.salt_shares.specs.Applies.{AreSharesLast, IsShareLast, applied_with_shares}
use Rattle.salt_shares.specs.Prepares.{MayPrepareEach, with_shares}
use Rattle.salt_shares.specs.Shares.{MayPrepareShare, applied_with, has_changes, share_at, with_share}
use Rattle.salt_stands.proofs.Commits.{found_decided, listed_same, part_same}
use Rattle.salt_stands.proofs.Coordinators.{decision_stands}
use Rattle.salt_stands.proofs.Decided.{decided_with, decided_without, prepared_last}
use Rattle.salt_stands.proofs.Prepared.{decided_stands, prepared_stands, prepared_tables, undecided_stands}
use Rattle.salt_stands.specs.Commits.{PartSame, Stood, each_tables, found_after, found_of, partition_count, share, view_after}
use Rattle.salt_stands.specs.Coordinator.{Coordinator, Logs, decided_for, device_of}
use Rattle.salt_stands.specs.Partition.{is_sound_change, is_sound_log, pages_device, part_device}
use Rattle.salt_stands.specs.Pieces.{HasOneMore, IsSameAt, PartStands, PartView, is_prepared_in, other_log, tables_at_part, with_decision, with_prepared_unit}
use Rattle.salt_stands.specs.Reading.{Reading}
use Rattle.salt_stands.specs.Stands.{found_with, logs_of}
use Rattle.salt_stands.specs.Words.{has_bit}
use Rattle.salt_values.specs.Id.{has_id}
use Rattle.salt_place.specs.Placement.{IsParts}
use Rattle.salt_values.specs.declared.change.Change.{Change}
use Rattle.salt_values.specs.declared.cont.Cont.{Cont}
use Rattle.salt_values.specs.declared.id.Id.{Id}
use Rattle.std.proofs.Common.{IsTrue, List, None, Option, Some, [], ap, arith, false, inl, inr, length, refl, subst, sym, true, ℕ, ◌+◌, ◌++◌, ◌<◌, ◌^◌, ◌≡◌, ◌≢◌, ◌≤◌, ◌⊎◌, ◌∙◌, ◌∷◌}
use Rattle.std.proofs.lemmas.Option.{slice_get_past}
use Rattle.std.specs.List.{list_all}
use Rattle.std.specs.Prelude.{Bool, if◌then◌else◌, slice_get}

-- a share that has changes is an entry
share_there : (u : Id) (s : List Change) (w : PartView) → has_changes s ≡ true → is_prepared_in u (with_share u s w).log.prepared ≡ true
share_there u [] w e = cc
share_there u (c ∷ cs) w e = prepared_last w.log.prepared (prepared u (c ∷ cs))

within_list : {X : Type 0} (xs : List X) (p : ℕ) (x : X) → slice_get xs p ≡ Some x → p < length xs
within_list {X = X} xs p x e = by (less_or p (length xs))
  where
    less_or : (a b : ℕ) → (a < b) ⊎ (b ≤ a)
    less_or a b = grind arith

    by : (p < length xs) ⊎ (length xs ≤ p) → p < length xs
    by (inl low) = low
    by (inr high) = absurd (none (slice_get xs p) (slice_get_past xs p high) e)
      where
        none : (o : Option X) → o ≡ None → o ≡ Some x → ⊥
        none o a b = cc

module _ {D : Type 0} (r : Reading D) (d : View) (x : Store) (which : WhichLog) (c : Coordinator D) (v : ℕ → PartView) (is : IsStore r d x which c v)
    (u : Id) (cs : List Change) (mv : List ℕ) (m : Move) (conts : List Cont) (may : MayCommitUnit d.told r c v u cs mv m conts) (parts : IsParts (partition_count c))
    (hand : IsInHand u cs mv) (room : c.log.told.decisions + 1 < 2 ^ 64) where
  shares : List (List Change)
  shares = shares_of c.log.header.shape cs

  same_tables : (s : List Change) (p : ℕ) → has_id u (decided_by c p) ≡ false → tables_at_part c p (with_share u s (v p)) ≡ tables_at_part c p (v p)
  same_tables [] p e = refl
  same_tables (ch ∷ chs) p e = prepared_tables r c p (v p) (prepared u (ch ∷ chs)) e

  -- PREPARED SHARES change nothing of what stands
  pub found_prepared : found_of c (with_shares u (shares_of c.log.header.shape cs) v) ≡ found_of c v
  found_prepared = ap (found_with c) (listed_same (each_tables c (with_shares u (shares_of c.log.header.shape cs) v)) (each_tables c v) 0 (partition_count c)
      (λ p low. same_tables (share_at (shares_of c.log.header.shape cs) p) p (may.new p (omega (arith, low)))))

  -- each partition is as the unit's commit makes it
  pub views_after : (p : ℕ) → p < partition_count c → with_shares u (shares_of c.log.header.shape cs) v p ≡ view_after c v cs (next_decision c u cs mv) p
  views_after p low =
      ap (λ s. if has_changes (share_at (shares_of c.log.header.shape cs) p) then with_prepared_unit (v p) (prepared u s) else v p) (share_is c.log.header.shape cs p low)
      ∙ ap (λ b. if b then with_prepared_unit (v p) (share c u cs p) else v p) (sym (mask_bit (shares_of c.log.header.shape cs) p))

  pub found_with_unit : IsTrue d.told → found_of (with_decision c (next_decision c u cs mv) conts) (with_shares u (shares_of c.log.header.shape cs) v) ≡ found_after c v cs (next_decision c u cs mv) conts
  found_with_unit told =
      let now = with_decision c (next_decision c u cs mv) conts in
      ap (found_with now) (listed_same (each_tables now (with_shares u (shares_of c.log.header.shape cs) v)) (each_tables now (view_after c v cs (next_decision c u cs mv))) 0 (partition_count c)
      (λ p low. ap (tables_at_part now p) (views_after p (omega (arith, low)))))
      ∙ found_decided r c v which cs (next_decision c u cs mv) m conts (spell_entry (Decides (next_decision c u cs mv))) (λ p. spell_prepared (prepared u (share_at (shares_of c.log.header.shape cs) p)))
      (may_commit r d x which c v is u cs mv m conts may parts hand told) (spelled r d x which c v is u cs mv m conts may parts hand room)
      (logs_of d.bytes) (logs_of d.bytes) d.bytes d.bytes (stood r d x which c v is told) (λ p low. refl)

  -- a log with its share is sound
  pub sound_share : IsTrue d.told → (p : ℕ) → p < partition_count c → is_sound_log r c p (with_shares u (shares_of c.log.header.shape cs) v p).log ≡ true
  sound_share told p low = by (share_at (shares_of c.log.header.shape cs) p) refl
    where
      own : PartStands r c (logs_of d.bytes) d.bytes p (v p)
      own = (stood r d x which c v is told).part p low

      by : (s : List Change) → share_at (shares_of c.log.header.shape cs) p ≡ s → is_sound_log r c p (with_share u s (v p)).log ≡ true
      by [] e = own.sound
      by (ch ∷ chs) e =
          let q = part_at d x.parts v (decided_by c) is.parts p (omega (arith, low, is.size)) in
          let dev = device_of (part_device p) (v p).which in
          let payload = spell_prepared (prepared u (share_at (shares_of c.log.header.shape cs) p)) in
          let same : share c u cs p ≡ prepared u (ch ∷ chs) = ap (prepared u) (sym (share_is c.log.header.shape cs p low) ∙ e) in
          let stands = prepared_stands r c (logs_of d.bytes) (pushed (logs_of d.bytes) dev (q.1.entries ++ payload ∷ [])) d.bytes p (v p) payload (share c u cs p) own
          (record {
            entries = q.1.entries;
            before = subst (λ k. entries_in (d.bytes k) ≡ Some q.1.entries) q.1.device (log_bytes d q.0.log q.1.entries told q.1.is_log);
            after = pushed_here (logs_of d.bytes) dev (q.1.entries ++ payload ∷ []);
          })
          (pushed_there (logs_of d.bytes) dev (q.1.entries ++ payload ∷ []) (device_of (part_device p) (other_log (v p).which)) (apart (v p).which (part_device p)))
          (share_reads r d x which c v is u cs mv m conts may parts hand p low) (sound_of r d x which c v is u cs mv m conts may parts told p) in
          subst (λ z. is_sound_log r c p (with_prepared_unit (v p) z).log ≡ true) same stands.sound
        where
          apart : (w : WhichLog) (a : ℕ) → device_of a (other_log w) ≢ device_of a w
          apart LogA a e = omega (arith, e)
          apart LogB a e = omega (arith, e)

  -- the rows on its pages are those from before
  rows_share : IsTrue d.told → (p : ℕ) → p < partition_count c → list_all (is_sound_change r c p) (with_shares u (shares_of c.log.header.shape cs) v p).rows ≡ true
  rows_share told p low = by (share_at (shares_of c.log.header.shape cs) p)
    where
      by : (s : List Change) → list_all (is_sound_change r c p) (with_share u s (v p)).rows ≡ true
      by [] = (is.sound told).rows p low
      by (ch ∷ chs) = (is.sound told).rows p low

  -- THE STORE WITH THE SHARES PREPARED
  pub store_prepared : (b : View) (y : Store) → y.decisions ≡ x.decisions → length y.parts ≡ length x.parts
      → KeepsBut (IsVoteDevice x.parts (shares_of c.log.header.shape cs)) d b None
      → ArePartitions b y.parts (with_shares u (shares_of c.log.header.shape cs) v) (decided_by c) → IsStore r b y which c (with_shares u (shares_of c.log.header.shape cs) v)
  store_prepared b y same size others are = record {
    decisions = subst (λ z. IsDecisions b z which c.log) (sym same) (decisions_kept d b x.decisions which c.log others.shape (unchanged LogA) (unchanged LogB) is.decisions);
    size = size ∙ is.size;
    parts = are;
    sound = λ told. let was = sym others.shape.told ∙ told in record { coordinator = (is.sound was).coordinator; part = sound_share was; rows = rows_share was };
  }
    where
      apart : (w : WhichLog) (q : ℕ) (z : WhichLog) → device_of 0 w ≢ device_of (part_device q) z
      apart w q LogA e = apart_from_part w q 0 (omega (arith, e))
      apart w q LogB e = apart_from_part w q 1 (omega (arith, e))

      no_page : (w : WhichLog) (q : ℕ) → device_of 0 w ≢ pages_device q
      no_page LogA q e = omega (arith, e)
      no_page LogB q e = omega (arith, e)

      untouched : (w : WhichLog) → ¬ IsVoteDevice x.parts (shares_of c.log.header.shape cs) (device_of 0 w)
      untouched w (inl t) = apart w t.p (v t.p).which (t.log.device ∙ (if_some (slice_get x.parts t.p) t.x (λ z. IsPartition d z t.p (v t.p) (decided_by c t.p)) t.at (is.parts.each t.p)).device)
      untouched w (inr t) = no_page w t.p t.is

      unchanged : (w : WhichLog) → IsUnchanged d b (device_of 0 w)
      unchanged w = others.kept (device_of 0 w) (untouched w)

  pub shares_last : MayPrepareEach v (decided_by c) u (shares_of c.log.header.shape cs) → AreSharesLast (with_shares u (shares_of c.log.header.shape cs) v) (decided_by c) u (shares_of c.log.header.shape cs)
  shares_last each = record { each = λ p. by p (share_at (shares_of c.log.header.shape cs) p) (each.each p) }
    where
      by : (p : ℕ) (s : List Change) → MayPrepareShare (v p) (decided_by c p) u s → IsShareLast (with_share u s (v p)) (decided_by c p) u s
      by p [] h e = cc
      by p (ch ∷ chs) h e = may_apply (v p) (decided_by c p) u (ch ∷ chs) (h refl)

  -- the units that are decided with the unit
  pub applied_now : (p : ℕ) → applied_with_shares u (shares_of c.log.header.shape cs) (decided_by c) p ≡ decided_for p (c.log.told.decided ++ next_decision c u cs mv ∷ [])
  applied_now p = by (share_at (shares_of c.log.header.shape cs) p) (mask_bit (shares_of c.log.header.shape cs) p)
    where
      by : (s : List Change) → has_bit (next_decision c u cs mv).mask p ≡ has_changes s → applied_with u s (decided_by c p) ≡ decided_for p (c.log.told.decided ++ next_decision c u cs mv ∷ [])
      by [] bit = sym (decided_without p c.log.told.decided (next_decision c u cs mv) bit)
      by (ch ∷ chs) bit = sym (decided_with p c.log.told.decided (next_decision c u cs mv) bit)

  -- THE DECISION
  module _ (b : View) (y : Store) (is' : IsStore r b y which c (with_shares u (shares_of c.log.header.shape cs) v)) where
    makes_decision : IsTrue d.told → IsTrue b.told → (logs : Logs) → HasOneMore (logs_of b.bytes) logs (device_of 0 which) (spell_entry (Decides (next_decision c u cs mv))) → IsSameAt (device_of 0 (other_log which)) (logs_of b.bytes) logs
        → ((p : ℕ) → p < partition_count c → PartSame (logs_of b.bytes) logs p) → Stood r logs b.bytes which (with_decision c (next_decision c u cs mv) conts) (with_shares u (shares_of c.log.header.shape cs) v)
    makes_decision was told logs one other same = record {
      coordinator = decision_stands r (logs_of b.bytes) logs which c (spell_entry (Decides (next_decision c u cs mv))) (next_decision c u cs mv) m conts now.coordinator one other
          (decision_reads r d x which c v is u cs mv m conts may parts hand room) refl (may.boot was) (may.spells was) (may.moves was) (may.named was);
      part = λ p low. each p low (has_bit (next_decision c u cs mv).mask p) refl;
    }
      where
        now : Stood r (logs_of b.bytes) b.bytes which c (with_shares u (shares_of c.log.header.shape cs) v)
        now = stood r b y which c (with_shares u (shares_of c.log.header.shape cs) v) is' told

        kept : (p : ℕ) → p < partition_count c → PartStands r c logs b.bytes p (with_shares u (shares_of c.log.header.shape cs) v p)
        kept p low = part_same r c (logs_of b.bytes) logs b.bytes p (with_shares u (shares_of c.log.header.shape cs) v p) (now.part p low) (same p low)

        each : (p : ℕ) → p < partition_count c → (bit : Bool) → has_bit (next_decision c u cs mv).mask p ≡ bit → PartStands r (with_decision c (next_decision c u cs mv) conts) logs b.bytes p (with_shares u (shares_of c.log.header.shape cs) v p)
        each p low true bit = decided_stands r c logs b.bytes p (with_shares u (shares_of c.log.header.shape cs) v p) (next_decision c u cs mv) conts (kept p low) bit
            (share_there u (share_at (shares_of c.log.header.shape cs) p) (v p) (sym (mask_bit (shares_of c.log.header.shape cs) p) ∙ bit))
        each p low false bit = undecided_stands r c logs b.bytes p (with_shares u (shares_of c.log.header.shape cs) v p) (next_decision c u cs mv) conts (kept p low) bit

    -- each log is sound under the decision
    pub sound_decided : IsTrue d.told → IsTrue b.told → IsSound r (with_decision c (next_decision c u cs mv) conts) (with_shares u (shares_of c.log.header.shape cs) v)
    sound_decided was told =
        sound_with r b y which c (with_shares u (shares_of c.log.header.shape cs) v) is' (spell_entry (Decides (next_decision c u cs mv))) (with_decision c (next_decision c u cs mv) conts) refl told (makes_decision was told)

    -- each image, whatever the call answers
    pub decision_images : (e : View) (answer : Option DiskErr) → KeepsOthers (device_in y.decisions) b e answer → IsTrue d.told → IsTrue b.told
        → EachImage e (device_of 0 which) (IsBeforeOrWith (b.bytes (device_of 0 which)) (spell_entry (Decides (next_decision c u cs mv))))
        → StandForEither r e (found_of c v) (found_after c v cs (next_decision c u cs mv) conts)
    decision_images e answer keeps told told' images =
        subst (λ z. StandForEither r e z (found_after c v cs (next_decision c u cs mv) conts)) found_prepared
        (subst (λ z. StandForEither r e (found_of c (with_shares u (shares_of c.log.header.shape cs) v)) z) (found_with_unit told)
        (each_image r b y which c (with_shares u (shares_of c.log.header.shape cs) v) is' e answer keeps told' (spell_entry (Decides (next_decision c u cs mv))) (with_decision c (next_decision c u cs mv) conts)
        (pages_same r b y which c (with_shares u (shares_of c.log.header.shape cs) v) is' told') (makes_decision told told') images))

    -- THE STORE WITH THE UNIT
    pub store_after : (f : View) (z : Store) → (IsTrue f.told → IsTrue d.told) → (IsTrue f.told → IsTrue b.told) → IsDecisions f z.decisions which (with_decision c (next_decision c u cs mv) conts).log → length z.parts ≡ length y.parts
        → ArePartitions f z.parts (with_shares u (shares_of c.log.header.shape cs) v) (decided_by (with_decision c (next_decision c u cs mv) conts))
        → IsStore r f z which (with_decision c (next_decision c u cs mv) conts) (view_after c v cs (next_decision c u cs mv))
    store_after f z first was decisions size are = record {
      decisions = decisions;
      size = size ∙ is'.size;
      parts = record { each = λ p. make_some (slice_get z.parts p) (λ q. IsPartition f q p (view_after c v cs (next_decision c u cs mv) p) (decided_by now p)) (each p) };
      sound = λ told.
          let s = sound_decided (first told) (was told) in
          record {
            coordinator = s.coordinator;
            part = λ p low. subst (λ w. is_sound_log r now p w.log ≡ true) (views_after p low) (s.part p low);
            rows = λ p low. subst (λ w. list_all (is_sound_change r now p) w.rows ≡ true) (views_after p low) (s.rows p low);
          };
    }
      where
        now : Coordinator D
        now = with_decision c (next_decision c u cs mv) conts

        each : (p : ℕ) (q : Partition) → slice_get z.parts p ≡ Some q → IsPartition f q p (view_after c v cs (next_decision c u cs mv) p) (decided_for p (c.log.told.decided ++ next_decision c u cs mv ∷ []))
        each p q e =
            let low : p < partition_count c = omega (arith, within_list z.parts p q e, size, is'.size) in
            subst (λ w. IsPartition f q p w (decided_by now p)) (views_after p low)
            (if_some (slice_get z.parts p) q (λ k. IsPartition f k p (with_shares u (shares_of c.log.header.shape cs) v p) (decided_by now p)) e (are.each p))
