-- A prepared unit behind a partition's entries, and units that are decided.
use Rattle.salt_model.specs.Tables.{no_rows, with_changes}
use Rattle.salt_values.specs.Id.{has_id}
use Rattle.salt_values.specs.declared.cont.Cont.{Cont}
use Rattle.salt_bytes.specs.Coordinator.{Decision}
use Rattle.salt_bytes.specs.Formats.{has_nulls}
use Rattle.salt_bytes.specs.Partition.{Prepared, prepared_in}
use Rattle.salt_stands.proofs.Booleans.{all_push, all_weaker, join, left, right}
use Rattle.salt_stands.proofs.Decided.{changes_other, changes_push, decided_with, decided_without, has_last, prepared_more, with_changes_append}
use Rattle.salt_stands.proofs.Pairs.{pair_push}
use Rattle.salt_stands.proofs.PartitionLogs.{partition_push}
use Rattle.salt_stands.specs.Coordinator.{Coordinator, Logs, decided_for, device_of}
use Rattle.salt_stands.specs.Partition.{are_there, changes_if, decided_changes, is_format_under, is_sound_log, is_sound_prepared, part_device, part_tables}
use Rattle.salt_stands.specs.PartitionLog.{PartitionLog, partition_generation, partition_in}
use Rattle.salt_stands.specs.Pieces.{HasOneMore, IsSameAt, PartStands, PartView, is_prepared_in, other_log, tables_at_part, with_decision, with_prepared_unit}
use Rattle.salt_stands.specs.Reading.{Reading}
use Rattle.salt_stands.specs.Words.{has_bit}
use Rattle.salt_values.specs.declared.id.Id.{Id}
use Rattle.std.proofs.Common.{Bool, List, Some, [], ap, append_assoc, false, refl, subst, sym, true, ℕ, ◌++◌, ◌≡◌, ◌∙◌, ◌∷◌}
use Rattle.std.proofs.lemmas.List.{append-nil}
use Rattle.std.specs.List.{list_all}
use Rattle.std.specs.Prelude.{nat_lt, ◌&&◌, ◌||◌}

either_weaker : (a b c : Bool) → (a || b) ≡ true → (b ≡ true → c ≡ true) → (a || c) ≡ true
either_weaker true b c e h = refl
either_weaker false b c e h = h e

there_more : (us : List Id) (v : PartView) (x : Prepared) → are_there us v.log ≡ true → are_there us (with_prepared_unit v x).log ≡ true
there_more us v x e =
    either_weaker (nat_lt 1 v.log.header.generation) (list_all (λ u. is_prepared_in u v.log.prepared) us) (list_all (λ u. is_prepared_in u (v.log.prepared ++ x ∷ [])) us) e
    (all_weaker (λ u. is_prepared_in u v.log.prepared) (λ u. is_prepared_in u (v.log.prepared ++ x ∷ [])) (λ u h. prepared_more u v.log.prepared x h) us)

module _ {D : Type 0} (r : Reading D) where
  pub sound_format : (c : Coordinator D) (p : ℕ) (log : PartitionLog) → is_sound_log r c p log ≡ true → is_format_under c.log.header.format log.header.format ≡ true
  sound_format c p log e = left (is_format_under c.log.header.format log.header.format) (are_there (decided_for p c.log.told.decided) log && list_all (is_sound_prepared r c p) log.prepared) e

  pub sound_there : (c : Coordinator D) (p : ℕ) (log : PartitionLog) → is_sound_log r c p log ≡ true → are_there (decided_for p c.log.told.decided) log ≡ true
  sound_there c p log e = left (are_there (decided_for p c.log.told.decided) log) (list_all (is_sound_prepared r c p) log.prepared) (right (is_format_under c.log.header.format log.header.format) (are_there (decided_for p c.log.told.decided) log && list_all (is_sound_prepared r c p) log.prepared) e)

  pub sound_units : (c : Coordinator D) (p : ℕ) (log : PartitionLog) → is_sound_log r c p log ≡ true → list_all (is_sound_prepared r c p) log.prepared ≡ true
  sound_units c p log e = right (are_there (decided_for p c.log.told.decided) log) (list_all (is_sound_prepared r c p) log.prepared) (right (is_format_under c.log.header.format log.header.format) (are_there (decided_for p c.log.told.decided) log && list_all (is_sound_prepared r c p) log.prepared) e)

  pub sound_log : (c : Coordinator D) (p : ℕ) (log : PartitionLog) → is_format_under c.log.header.format log.header.format ≡ true → are_there (decided_for p c.log.told.decided) log ≡ true → list_all (is_sound_prepared r c p) log.prepared ≡ true → is_sound_log r c p log ≡ true
  sound_log c p log f t u =
      join (is_format_under c.log.header.format log.header.format) (are_there (decided_for p c.log.told.decided) log && list_all (is_sound_prepared r c p) log.prepared) f
      (join (are_there (decided_for p c.log.told.decided) log) (list_all (is_sound_prepared r c p) log.prepared) t u)

  -- A PREPARED UNIT: the partition stands as before, and for the same tables where the unit is not decided
  pub prepared_stands : (c : Coordinator D) (old new : Logs) (devices : ℕ → List ℕ) (p : ℕ) (v : PartView) (payload : List ℕ) (x : Prepared)
      → PartStands r c old devices p v
      → HasOneMore old new (device_of (part_device p) v.which) payload → IsSameAt (device_of (part_device p) (other_log v.which)) old new
      → prepared_in (has_nulls v.log.header.format) payload ≡ Some x → is_sound_prepared r c p x ≡ true
      → PartStands r c new devices p (with_prepared_unit v x)
  prepared_stands c old new devices p v payload x h one same reads good = record {
    counts = pair_push partition_generation (partition_in p) (part_device p) old new v.which v.log (with_prepared_unit v x).log payload h.counts one same refl (λ es is. partition_push payload x p es v.log is reads);
    sound = sound_log c p (with_prepared_unit v x).log (sound_format c p v.log h.sound)
        (there_more (decided_for p c.log.told.decided) v x (sound_there c p v.log h.sound))
        (all_push (is_sound_prepared r c p) v.log.prepared x (sound_units c p v.log h.sound) good);
    rows = h.rows;
  }

  pub prepared_tables : (c : Coordinator D) (p : ℕ) (v : PartView) (x : Prepared) → has_id x.unit (decided_for p c.log.told.decided) ≡ false → tables_at_part c p (with_prepared_unit v x) ≡ tables_at_part c p v
  prepared_tables c p v x e =
      let us = decided_for p c.log.told.decided in
      ap (λ cs. with_changes (v.rows ++ cs) no_rows) (changes_push us v.log.prepared x ∙ ap (λ b. decided_changes us v.log.prepared ++ changes_if b x.changes) e ∙ append-nil (decided_changes us v.log.prepared))

  -- A DECISION: each partition stands as before, with its entry where it has a bit
  pub decided_stands : (c : Coordinator D) (logs : Logs) (devices : ℕ → List ℕ) (p : ℕ) (v : PartView) (d : Decision) (cs : List Cont)
      → PartStands r c logs devices p v → has_bit d.mask p ≡ true → is_prepared_in d.unit v.log.prepared ≡ true
      → PartStands r (with_decision c d cs) logs devices p v
  decided_stands c logs devices p v d cs h bit there = record {
    counts = h.counts;
    sound = sound_log (with_decision c d cs) p v.log (sound_format c p v.log h.sound)
        (subst (λ (us : List Id). are_there us v.log ≡ true) (sym (decided_with p c.log.told.decided d bit))
        (either_weaker (nat_lt 1 v.log.header.generation) (list_all (λ u. is_prepared_in u v.log.prepared) (decided_for p c.log.told.decided)) (list_all (λ u. is_prepared_in u v.log.prepared) (decided_for p c.log.told.decided ++ d.unit ∷ [])) (sound_there c p v.log h.sound)
        (λ all. all_push (λ u. is_prepared_in u v.log.prepared) (decided_for p c.log.told.decided) d.unit all there)))
        (sound_units c p v.log h.sound);
    rows = h.rows;
  }

  pub undecided_stands : (c : Coordinator D) (logs : Logs) (devices : ℕ → List ℕ) (p : ℕ) (v : PartView) (d : Decision) (cs : List Cont)
      → PartStands r c logs devices p v → has_bit d.mask p ≡ false → PartStands r (with_decision c d cs) logs devices p v
  undecided_stands c logs devices p v d cs h bit = record {
    counts = h.counts;
    sound = sound_log (with_decision c d cs) p v.log (sound_format c p v.log h.sound)
        (subst (λ (us : List Id). are_there us v.log ≡ true) (sym (decided_without p c.log.told.decided d bit)) (sound_there c p v.log h.sound))
        (sound_units c p v.log h.sound);
    rows = h.rows;
  }

  pub undecided_tables : (c : Coordinator D) (p : ℕ) (v : PartView) (d : Decision) (cs : List Cont) → has_bit d.mask p ≡ false → tables_at_part (with_decision c d cs) p v ≡ tables_at_part c p v
  undecided_tables c p v d cs bit = ap (λ us. part_tables us v.log v.rows) (decided_without p c.log.told.decided d bit)

  -- the unit was prepared last, and is told nowhere before: its changes are made
  pub decided_tables : (c : Coordinator D) (p : ℕ) (v : PartView) (x : Prepared) (d : Decision) (cs : List Cont)
      → has_bit d.mask p ≡ true → d.unit ≡ x.unit → is_prepared_in x.unit v.log.prepared ≡ false → has_id x.unit (decided_for p c.log.told.decided) ≡ false
      → tables_at_part (with_decision c d cs) p (with_prepared_unit v x) ≡ with_changes x.changes (tables_at_part c p v)
  decided_tables c p v x d cs bit same fresh new =
      let us = decided_for p c.log.told.decided in
      let now : decided_for p (c.log.told.decided ++ d ∷ []) ≡ us ++ x.unit ∷ [] = decided_with p c.log.told.decided d bit ∙ ap (λ u. us ++ u ∷ []) same in
      let told : has_id x.unit (us ++ x.unit ∷ []) ≡ true = has_last us x.unit in
      let all : decided_changes (us ++ x.unit ∷ []) (v.log.prepared ++ x ∷ []) ≡ decided_changes us v.log.prepared ++ x.changes =
      changes_push (us ++ x.unit ∷ []) v.log.prepared x ∙ ap (λ b. decided_changes (us ++ x.unit ∷ []) v.log.prepared ++ changes_if b x.changes) told ∙ ap (λ ds. ds ++ x.changes) (changes_other us x.unit v.log.prepared fresh) in
      ap (λ us'. part_tables us' (with_prepared_unit v x).log v.rows) now
      ∙ ap (λ ds. with_changes (v.rows ++ ds) no_rows) all
      ∙ ap (λ ds. with_changes ds no_rows) (sym (append_assoc v.rows (decided_changes us v.log.prepared) x.changes))
      ∙ with_changes_append (v.rows ++ decided_changes us v.log.prepared) x.changes no_rows
