-- New generations: a checkpoint and a snapshot, and what comes before them.
use Rattle.salt_model.specs.Tables.{no_rows, with_changes}
use Rattle.salt_values.specs.declared.change.Change.{Change}
use Rattle.salt_bytes.specs.Conts.{move_in}
use Rattle.salt_bytes.specs.Coordinator.{Decision, header_in}
use Rattle.salt_bytes.specs.Generations.{Blank, Counts, IsRead, LogA, LogB, WhichLog, chosen, follows, next_generation, pair_of, read_or_outside, content_of}
use Rattle.salt_bytes.specs.Partition.{PartitionHeader, partition_header_in}
use Rattle.salt_stands.proofs.Booleans.{all_weaker, either_left, right}
use Rattle.salt_stands.proofs.OpenConts.{AreOpen, moved_keeps}
use Rattle.salt_stands.proofs.Pairs.{is_read_a, is_read_b}
use Rattle.salt_stands.proofs.Prepared.{sound_log}
use Rattle.salt_stands.specs.Coordinator.{Coordinator, Logs, decided_for, device_of, is_sound_cont, is_sound_decision}
use Rattle.salt_stands.specs.CoordinatorLog.{coordinator_generation, coordinator_in, told_by_header, with_told}
use Rattle.salt_stands.specs.OpenConts.{conts_of_move}
use Rattle.salt_stands.specs.Partition.{are_sound_rows, is_format_under, is_sound_prepared, pages_device, part_device, rows_of_pages}
use Rattle.salt_stands.specs.PartitionLog.{own_log, partition_generation, partition_in, with_prepared}
use Rattle.salt_stands.specs.Pieces.{CoordinatorStands, IsSameAt, PartStands, PartView, ReadsSamePages, checkpointed, next_header, next_part_header, other_log, tables_at_part, with_snapshot}
use Rattle.salt_stands.specs.Reading.{Reading}
use Rattle.salt_stands.specs.Tables.{change_of_row}
use Rattle.std.proofs.Common.{Bool, List, Option, Some, [], ap, arith, false, refl, sym, true, ℕ, ◌+◌, ◌++◌, ◌≡◌, ◌∙◌, ◌∷◌}
use Rattle.std.proofs.lemmas.Bool.Decides.{Decides-eqb, nat_tests}
use Rattle.std.proofs.lemmas.List.{append-nil}
use Rattle.std.specs.List.{list_all}
use Rattle.std.specs.Prelude.{map, nat_le, nat_lt, ◌||◌, option_and_then}
use Rattle.std.specs.Bool.{then_some}

-- WHICH COUNTS

next_follows : (n : ℕ) → follows n (next_generation n) ≡ true
next_follows n = (Decides-eqb (next_generation n) (next_generation n)).1 refl

-- no generation is the next after its next
not_back : (n : ℕ) → follows (next_generation n) n ≡ false
not_back n = grind (arith, nat_tests)

next_above_one : (n : ℕ) → nat_le 1 n ≡ true → nat_lt 1 (next_generation n) ≡ true
next_above_one n h = grind (arith, nat_tests)

module _ {L : Type 0} (generation : L → ℕ) where
  next_b : (log next : L) → generation next ≡ next_generation (generation log) → pair_of generation (IsRead log) (IsRead next) ≡ Counts LogB next
  next_b log next e = ap (λ b. chosen b (follows (generation next) (generation log)) log next) (ap (λ n. follows (generation log) n) e ∙ next_follows (generation log))

  next_a : (log next : L) → generation next ≡ next_generation (generation log) → pair_of generation (IsRead next) (IsRead log) ≡ Counts LogA next
  next_a log next e =
      ap (λ b. chosen b (follows (generation log) (generation next)) next log) (ap (λ n. follows n (generation log)) e ∙ not_back (generation log))
      ∙ ap (λ b. chosen false b next log) (ap (λ n. follows (generation log) n) e ∙ next_follows (generation log))

  -- the other log holds the next generation's header alone
  pub pair_next : (read : List (List ℕ) → Option L) (dev : ℕ) (old new : Logs) (which : WhichLog) (log next : L) (payload : List ℕ)
      → pair_of generation (content_of read (old dev)) (content_of read (old (dev + 1))) ≡ Counts which log
      → new (device_of dev (other_log which)) ≡ Some (payload ∷ []) → IsSameAt (device_of dev which) old new
      → read (payload ∷ []) ≡ Some next → generation next ≡ next_generation (generation log)
      → pair_of generation (content_of read (new dev)) (content_of read (new (dev + 1))) ≡ Counts (other_log which) next
  pair_next read dev old new LogA log next payload counts is same reads_next g =
      let was : content_of read (new dev) ≡ IsRead log = ap (content_of read) same ∙ is_read_a generation (content_of read (old dev)) (content_of read (old (dev + 1))) log counts in
      let now : content_of read (new (dev + 1)) ≡ IsRead next = ap (content_of read) is ∙ ap read_or_outside reads_next in
      ap (λ x. pair_of generation x (content_of read (new (dev + 1)))) was ∙ ap (λ x. pair_of generation (IsRead log) x) now ∙ next_b log next g
  pair_next read dev old new LogB log next payload counts is same reads_next g =
      let was : content_of read (new (dev + 1)) ≡ IsRead log = ap (content_of read) same ∙ is_read_b generation (content_of read (old dev)) (content_of read (old (dev + 1))) log counts in
      let now : content_of read (new dev) ≡ IsRead next = ap (content_of read) is ∙ ap read_or_outside reads_next in
      ap (λ x. pair_of generation x (content_of read (new (dev + 1)))) now ∙ ap (λ x. pair_of generation (IsRead next) x) was ∙ next_a log next g

  -- the other log is made blank
  pair_alone : (read : List (List ℕ) → Option L) (dev : ℕ) (old new : Logs) (which : WhichLog) (log : L)
      → pair_of generation (content_of read (old dev)) (content_of read (old (dev + 1))) ≡ Counts which log
      → new (device_of dev (other_log which)) ≡ Some [] → IsSameAt (device_of dev which) old new
      → pair_of generation (content_of read (new dev)) (content_of read (new (dev + 1))) ≡ Counts which log
  pair_alone read dev old new LogA log counts is same =
      let was : content_of read (new dev) ≡ IsRead log = ap (content_of read) same ∙ is_read_a generation (content_of read (old dev)) (content_of read (old (dev + 1))) log counts in
      ap (λ x. pair_of generation x (content_of read (new (dev + 1)))) was ∙ ap (λ o. pair_of generation (IsRead log) (content_of read o)) is
  pair_alone read dev old new LogB log counts is same =
      let was : content_of read (new (dev + 1)) ≡ IsRead log = ap (content_of read) same ∙ is_read_b generation (content_of read (old dev)) (content_of read (old (dev + 1))) log counts in
      ap (λ o. pair_of generation (content_of read o) (content_of read (new (dev + 1)))) is ∙ ap (λ x. pair_of generation Blank x) was

-- PARTITIONS

pub alone : (p : ℕ) (payload : List ℕ) (h : PartitionHeader) → partition_header_in payload ≡ Some h → h.part ≡ p → partition_in p (payload ∷ []) ≡ Some (record { header = h; prepared = [] })
alone p payload h is own = ap (option_and_then (λ h. own_log p h [])) is ∙ ap (λ b. option_and_then (λ (o : PartitionHeader). with_prepared o (Some [])) (then_some b h)) ((Decides-eqb h.part p).1 own)

module _ {D : Type 0} (r : Reading D) where
  -- writing pages on sides that the header does not name changes nothing
  pub pages_elsewhere : (c : Coordinator D) (logs : Logs) (old new : ℕ → List ℕ) (p : ℕ) (v : PartView)
      → PartStands r c logs old p v → ReadsSamePages v (old (pages_device p)) (new (pages_device p)) → PartStands r c logs new p v
  pages_elsewhere c logs old new p v h same = record {
    counts = h.counts;
    sound = h.sound;
    rows = ap (option_and_then (λ rows. then_some (are_sound_rows r c p (map change_of_row rows)) (map change_of_row rows))) same ∙ h.rows;
  }

  -- nor does making the other log blank
  pub other_blank : (c : Coordinator D) (old new : Logs) (devices : ℕ → List ℕ) (p : ℕ) (v : PartView)
      → PartStands r c old devices p v → new (device_of (part_device p) (other_log v.which)) ≡ Some [] → IsSameAt (device_of (part_device p) v.which) old new
      → PartStands r c new devices p v
  other_blank c old new devices p v h is same = record {
    counts = pair_alone partition_generation (partition_in p) (part_device p) old new v.which v.log h.counts is same;
    sound = h.sound;
    rows = h.rows;
  }

  -- A CHECKPOINT: the next header in the other log, whose pages have these rows
  pub checkpoint_stands : (c : Coordinator D) (old new : Logs) (before after : ℕ → List ℕ) (p : ℕ) (v : PartView) (payload : List ℕ) (format : ℕ) (sides : List ℕ) (rows : List Change)
      → PartStands r c old before p v
      → new (device_of (part_device p) (other_log v.which)) ≡ Some (payload ∷ []) → IsSameAt (device_of (part_device p) v.which) old new
      → partition_header_in payload ≡ Some (next_part_header v format sides) → v.log.header.part ≡ p → nat_le 1 v.log.header.generation ≡ true
      → is_format_under c.log.header.format format ≡ true
      → rows_of_pages r c p (checkpointed v (next_part_header v format sides) rows).log (after (pages_device p)) ≡ Some rows
      → PartStands r c new after p (checkpointed v (next_part_header v format sides) rows)
  checkpoint_stands c old new before after p v payload format sides rows h is same spells own first fits there =
      let now = checkpointed v (next_part_header v format sides) rows in
      record {
        counts = pair_next partition_generation (partition_in p) (part_device p) old new v.which v.log now.log payload h.counts is same (alone p payload (next_part_header v format sides) spells own) refl;
        sound = sound_log r c p now.log fits (either_left (nat_lt 1 (next_generation v.log.header.generation)) (list_all (λ u. false) (decided_for p c.log.told.decided)) (next_above_one v.log.header.generation first)) refl;
        rows = there;
      }

  pub checkpoint_tables : (c : Coordinator D) (p : ℕ) (v : PartView) (h : PartitionHeader) (rows : List Change)
      → with_changes rows no_rows ≡ tables_at_part c p v → tables_at_part c p (checkpointed v h rows) ≡ tables_at_part c p v
  checkpoint_tables c p v h rows e = ap (λ cs. with_changes cs no_rows) (append-nil rows) ∙ e

  -- THE COORDINATOR

  pub other_blank_coordinator : (old new : Logs) (which : WhichLog) (c : Coordinator D)
      → CoordinatorStands r old which c → new (device_of 0 (other_log which)) ≡ Some [] → IsSameAt (device_of 0 which) old new
      → CoordinatorStands r new which c
  other_blank_coordinator old new which c h is same = record { counts = pair_alone coordinator_generation coordinator_in 0 old new which c.log h.counts is same; is = h.is }

  -- A SNAPSHOT: the next header in the other log, with all that is told
  pub snapshot_stands : (old new : Logs) (which : WhichLog) (c : Coordinator D) (payload : List ℕ) (format : ℕ)
      → CoordinatorStands r old which c
      → new (device_of 0 (other_log which)) ≡ Some (payload ∷ []) → IsSameAt (device_of 0 which) old new
      → header_in payload ≡ Some (next_header c.log c.conts format)
      → CoordinatorStands r new (other_log which) (with_snapshot c format)
  snapshot_stands old new which c payload format h is same spells =
      let sound = is_sound_cont r c.definitions c.log.told in
      let one : Decision → Bool = λ d. list_all sound (conts_of_move (move_in c.log.header.format d.move)) in
      let open' : AreOpen sound c.conts = moved_keeps sound c.log.header.format c.log.told.decided c.log.header.conts c.conts
      (all_weaker (is_sound_decision r c.definitions c.log.told c.log.header.format) one (λ d e. right (nat_le d.unit.boot c.log.told.boot) (one d) e) c.log.told.decided h.is.decided)
      (record { rise = h.is.rise; each = h.is.named }) h.is.moves in
      record {
        counts = pair_next coordinator_generation coordinator_in 0 old new which c.log (with_snapshot c format).log payload h.counts is same (ap (option_and_then (λ x. with_told x (Some (told_by_header x)))) spells) refl;
        is = record { defined = h.is.defined; moves = refl; rise = open'.rise; named = open'.each; decided = refl };
      }

  -- under a snapshot a partition without prepared units stands as before, for the same tables
  pub snapshot_part : (c : Coordinator D) (logs : Logs) (devices : ℕ → List ℕ) (p : ℕ) (v : PartView) (format : ℕ)
      → PartStands r c logs devices p v → v.log.prepared ≡ [] → is_format_under format v.log.header.format ≡ true
      → PartStands r (with_snapshot c format) logs devices p v
  snapshot_part c logs devices p v format h none fits = record {
    counts = h.counts;
    sound = sound_log r (with_snapshot c format) p v.log fits (ap (λ b. b) (either_right (nat_lt 1 v.log.header.generation)))
        (ap (λ ps. list_all (is_sound_prepared r (with_snapshot c format) p) ps) none);
    rows = h.rows;
  }
    where
      either_right : (a : Bool) → (a || true) ≡ true
      either_right true = refl
      either_right false = refl

  pub snapshot_tables : (c : Coordinator D) (p : ℕ) (v : PartView) (format : ℕ) → v.log.prepared ≡ [] → tables_at_part (with_snapshot c format) p v ≡ tables_at_part c p v
  snapshot_tables c p v format none =
      ap (λ ps. with_changes (v.rows ++ Rattle.salt_stands.specs.Partition.decided_changes [] ps) no_rows) none
      ∙ sym (ap (λ ps. with_changes (v.rows ++ Rattle.salt_stands.specs.Partition.decided_changes (decided_for p c.log.told.decided) ps) no_rows) none)
