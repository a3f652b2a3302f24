-- A partition behind a checkpoint.
use Rattle.salt_bytes.proofs.Logs.{reads_partition_header}
use Rattle.salt_bytes.specs.Generations.{LogA, LogB, WhichLog, next_generation}
use Rattle.salt_bytes.specs.Page.{page_place}
use Rattle.salt_bytes.specs.Partition.{PartitionHeader, partition_header_in, spell_partition_header}
use Rattle.salt_bytes.specs.Log.{entries_in}
use Rattle.salt_bytes.specs.Spellable.{Every}
use Rattle.salt_checkpoint.proofs.Standing.{no_page}
use Rattle.salt_checkpoint.proofs.Torn.{named_refl}
use Rattle.salt_checkpoint.proofs.Kept.{kept_ready, kept_stands}
use Rattle.salt_checkpoint.specs.Checkpoints.{FullAt, IsNext, IsReady, StandsAlways}
use Rattle.salt_checkpoint.specs.Sides.{KeepsNamed, NamedSame}
use Rattle.salt_codec.specs.Entries.{header_of}
use Rattle.salt_disk.proofs.CallAfterCall.{keeps_on, keeps_wider}
use Rattle.salt_disk.specs.Disks.{FullOnly, IsSettled, IsUnchanged, KeepsBut, KeepsOthers, SameShape, View}
use Rattle.salt_disk.specs.declared.disks.DiskErr.TheVariants.{Failed, Full, Memory, Stopped}
use Rattle.salt_disk.specs.declared.disks.DiskErr.{DiskErr}
use Rattle.salt_gatelog.proofs.Entries.{whatever}
use Rattle.salt_gatelog.specs.Log.{IsLog}
use Rattle.salt_model.specs.Tables.{Tables, no_rows, with_changes}
use Rattle.salt_partition.proofs.Headers.{IsReadLog, read_log, sides_are_low}
use Rattle.salt_partition.proofs.Lasts.{no_last}
use Rattle.salt_paged.proofs.Keyed.{changed_keyed, pages_keyed}
use Rattle.salt_paged.proofs.Paged.{store_as, store_kept, true_is_not_false}
use Rattle.salt_paged.proofs.Sound.{rows_are_sound}
use Rattle.salt_paged.proofs.Standing.{entries_stand, logs_apart, settled_kept}
use Rattle.salt_partition.specs.Choices.{which_of}
use Rattle.salt_partition.specs.Contents.{HasKey}
use Rattle.salt_paged.specs.Checkpoints.{FullAtCheckpoint, IsCheckpointed, IsTouched, StandsUnder, other_device}
use Rattle.salt_paged.specs.Partitions.{IsPartition, IsTold, page_count, pages_of}
use Rattle.salt_paged.specs.declared.partition.Partition.{Partition}
use Rattle.salt_rows.specs.Stores as stores
use Rattle.salt_rows.specs.Stores.{HaveRows, IsClean, IsRowStore, IsSide, IsStanding}
use Rattle.salt_rows.specs.declared.store.RowStore.{RowStore}
use Rattle.salt_pool.specs.Dirtied.{is_dirty}
use Rattle.salt_stands.proofs.Generations.{pair_next}
use Rattle.salt_stands.proofs.PlacedParts.{decided_sound, rows_sound}
use Rattle.salt_stands.proofs.Generations.{alone}
use Rattle.salt_stands.proofs.Prepared.{sound_units}
use Rattle.salt_stands.specs.Coordinator.{Coordinator, decided_for, device_of}
use Rattle.salt_stands.specs.Partition.{HoldsPages, are_distinct, are_sound_rows, decided_changes, is_format_under, is_sound_change, pages_device, part_device, rows_from}
use Rattle.salt_stands.specs.PartitionLog.{partition_generation, partition_in}
use Rattle.salt_stands.specs.Pieces.{PartStands, PartView, checkpointed, next_part_header, other_log}
use Rattle.salt_stands.specs.Reading.{Reading}
use Rattle.salt_stands.specs.Stands.{logs_of}
use Rattle.salt_stands.specs.Tables.{change_of_row}
use Rattle.std.specs.Bool.{then_some}
use Rattle.std.specs.Prelude.{option_and_then}
use Rattle.salt_values.specs.declared.change.Change.{Change}
use Rattle.salt_values.specs.declared.id.Id.{Id}
use Rattle.std.proofs.Common.{Bool, IsTrue, List, None, Option, Some, [], ap, arith, false, inl, inr, length, refl, subst, suc, sym, true, zero, ℕ, ◌+◌, ◌++◌, ◌<◌, ◌^◌, ◌≡◌, ◌⊎◌, ◌∙◌, ◌∷◌}
use Rattle.std.proofs.lemmas.Bool.Decides.{nat_tests}
use Rattle.std.proofs.lemmas.List.Folds.{list_all-append}
use Rattle.std.proofs.lemmas.List.{append-nil}
use Rattle.std.specs.List.{list_all}
use Rattle.std.specs.Prelude.{map, nat_le, nat_lt, ◌&&◌, ◌||◌}

-- the tables of a view, as its partition keeps them
abbrev pub tables_in : List Id → PartView → Tables
tables_in us v = with_changes (v.rows ++ decided_changes us v.log.prepared) no_rows

pub under_any : (format : ℕ) → is_format_under format 2 ≡ true
under_any format = by (nat_lt format 2)
  where
    by : (b : Bool) → (b || true) ≡ true
    by true = refl
    by false = refl

pub next_is_some : (n : ℕ) → nat_le 1 (next_generation n) ≡ true
next_is_some n = grind (arith, nat_tests)

pub twice : (w : WhichLog) → other_log (other_log w) ≡ w
twice LogA = refl
twice LogB = refl

-- UNDER A COORDINATOR
module _ {D : Type 0} (r : Reading D) (d : View) (x : Partition) (which : WhichLog) (c : Coordinator D) (v : ℕ → PartView) (told : IsTrue d.told) (under : StandsUnder r d x which c v) where
  abbrev us : List Id
  us = decided_for x.part c.log.told.decided

  abbrev own : PartView
  own = v x.part

  -- while its pages are written, and behind that
  others_of : (e : View) (answer : Option DiskErr) → KeepsOthers (stores.device_of x.rows) d e answer → KeepsOthers (pages_device x.part) d e answer
  others_of e answer others = subst (λ dev. KeepsOthers dev d e answer) under.is.rows.is.device others

  pub flushed_stands : (e : View) (answer : Option DiskErr) → KeepsOthers (stores.device_of x.rows) d e answer
      → ((dev : ℕ) (named : List ℕ) (t : Tables) → IsStanding d x.rows dev named t → KeepsNamed named d e dev) → StandsAlways r e c v
  flushed_stands e answer others keeps = kept_stands r d which c v under.ready x.part under.below e answer (others_of e answer others) (keeps (pages_device x.part) own.log.header.sides (tables_in us own) under.is.rows.is)

  pub flushed_ready : (e : View) → KeepsOthers (stores.device_of x.rows) d e None → ((dev : ℕ) (named : List ℕ) (t : Tables) → IsStanding d x.rows dev named t → KeepsNamed named d e dev)
      → ((dev : ℕ) (named : List ℕ) (t : Tables) → IsStanding d x.rows dev named t → IsTrue d.told → NamedSame named (d.bytes dev) (e.bytes dev)) → IsReady r e which c v
  flushed_ready e others keeps same =
      let named = own.log.header.sides in
      let t = tables_in us own in
      kept_ready r d which c v under.ready x.part under.below e (others_of e None others) (keeps (pages_device x.part) named t under.is.rows.is) (same (pages_device x.part) named t under.is.rows.is told)

  stood : PartStands r c (logs_of d.bytes) d.bytes x.part own
  stood = under.ready.stood.part x.part under.below

  changes_sound : list_all (is_sound_change r c x.part) (own.rows ++ decided_changes us own.log.prepared) ≡ true
  changes_sound =
      list_all-append (is_sound_change r c x.part) own.rows (decided_changes us own.log.prepared)
      ∙ ap (λ b. b && list_all (is_sound_change r c x.part) (decided_changes us own.log.prepared)) (rows_sound r c x.part own.log (d.bytes (pages_device x.part)) own.rows stood.rows)
      ∙ decided_sound r c x.part us own.log.prepared (sound_units r c x.part own.log stood.sound)

  -- a header that names sides with the partition's rows is the next one
  pub is_next : (bytes header sides : List ℕ) (have : HaveRows true bytes sides (tables_in us own)) → partition_header_in header ≡ Some (next_part_header own 2 sides)
      → IsNext r c x.part own bytes [] header 2 sides (map change_of_row have.rows)
  is_next bytes header sides have spells =
      let read : IsReadLog x.part own.log = read_log x.part under.is.entries own.log (under.is.told told).reads in
      let rows = map change_of_row have.rows in
      let sound : are_sound_rows r c x.part rows ≡ true = rows_are_sound r c x.part (own.rows ++ decided_changes us own.log.prepared) have.rows changes_sound have.apart have.tables in
      record {
        spare = tt;
        spells = spells;
        own = read.own;
        first = read.header.first;
        fits = under_any c.log.header.format;
        reads = ap (option_and_then (λ rs. then_some (are_sound_rows r c x.part (map change_of_row rs)) (map change_of_row rs))) have.read ∙ ap (λ b. then_some b rows) sound;
        tables = have.tables;
      }

-- the header that is made is the next one, and its spelling is read again
pub next_names : (x : Partition) (v : PartView) → header_of x.header ≡ v.log.header → (taken sides : List ℕ) → taken ≡ sides → (header : PartitionHeader)
    → header ≡ record { format = 2; generation = next_generation x.header.generation; part = x.header.part; sides = taken } → header ≡ next_part_header v 2 sides
next_names x v is taken sides same header made =
    made ∙ ap (λ (h : PartitionHeader). record { format = 2; generation = next_generation h.generation; part = h.part; sides = taken }) is
    ∙ ap (λ (s : List ℕ). record { format = 2; generation = next_generation v.log.header.generation; part = v.log.header.part; sides = s }) same

pub header_reads : (v : PartView) (sides : List ℕ) (header : PartitionHeader) → header ≡ next_part_header v 2 sides → header.generation < 2 ^ 64 → Every IsSide sides → length sides < 2 ^ 32
    → partition_header_in (spell_partition_header header) ≡ Some (next_part_header v 2 sides)
header_reads v sides header same small low few =
    let next = next_part_header v 2 sides in
    subst (λ (h : PartitionHeader). partition_header_in (spell_partition_header h) ≡ Some next) (sym same)
    (reads_partition_header next (record {
      format = refl;
      generation = subst (λ (h : PartitionHeader). h.generation < 2 ^ 64) same small;
      first = next_is_some v.log.header.generation;
      count = few;
      sides = sides_are_low sides low;
    }))

-- WHAT IT MAKES: devices d become e while the pages are flushed, and f while the other log is begun
module _ (d e f : View) (x y : Partition) (p : ℕ) (v : PartView) (applied : List Id) (is : IsPartition d x p v applied) (first : KeepsOthers (pages_device p) d e None)
    (second : KeepsBut (λ dev. (dev ≡ pages_device p) ⊎ (dev ≡ device_of (part_device p) (other_log v.which))) e f None)
    (sides : List ℕ) (have : IsTrue d.told → HaveRows true (e.bytes (pages_device p)) sides (tables_in applied v))
    (header : List ℕ) (spells : partition_header_in header ≡ Some (next_part_header v 2 sides))
    (part : y.part ≡ x.part) (names : header_of y.header ≡ next_part_header v 2 sides) (side : which_of y.side ≡ other_log v.which)
    (device : y.log.dev ≡ device_of (part_device p) (other_log v.which)) (is_log : IsLog f y.log (header ∷ []))
    (bytes : IsTrue e.told → f.bytes (pages_device p) ≡ e.bytes (pages_device p)) (stable : IsSettled f (pages_device p))
    (store : IsRowStore e y.rows (pages_device p) sides (tables_in applied v)) where
  abbrev other : ℕ
  other = device_of (part_device p) (other_log v.which)

  abbrev counting : ℕ
  counting = device_of (part_device p) v.which

  -- the log that counted is as it was
  no_page_own : counting ≡ pages_device p → ⊥
  no_page_own same = no_page v.which p p same

  own_kept_first : IsUnchanged d e counting
  own_kept_first = first.kept counting no_page_own

  own_kept : IsUnchanged e f counting
  own_kept = second.kept counting apart
    where
      apart : (counting ≡ pages_device p) ⊎ (counting ≡ other) → ⊥
      apart (inl same) = no_page_own same
      apart (inr same) = logs_apart (part_device p) v.which (sym same)

  own_settled : IsSettled f counting
  own_settled = settled_kept e f counting own_kept (settled_kept d e counting own_kept_first (subst (IsSettled d) is.device is.is_log.settled))

  -- its store, of which the device's bytes are those from before the sync
  store_now : (t : Tables) → (IsTrue d.told → tables_in applied v ≡ t) → IsRowStore f y.rows (pages_device p) sides t
  store_now t same = by e.told refl
    where
      shape : f.told ≡ e.told
      shape = second.shape.told

      back : e.told ≡ d.told
      back = first.shape.told

      by : (told : Bool) → e.told ≡ told → IsRowStore f y.rows (pages_device p) sides t
      by true told = store_as f y.rows (pages_device p) sides (tables_in applied v) t (λ now. same (sym back ∙ sym shape ∙ now)) (store_kept e f y.rows (pages_device p) sides (tables_in applied v) second.shape (bytes told) store)
      by false untold = store_untold_kept (shape ∙ untold)
        where
          store_untold_kept : f.told ≡ false → IsRowStore f y.rows (pages_device p) sides t
          store_untold_kept now = record {
            is = record {
              device = store.is.device;
              known = omega (arith, store.is.known, second.shape.count);
              names = store.is.names;
              kept = store.is.kept;
              told = λ told. absurd (true_is_not_false (sym told ∙ now));
            };
            few = store.few;
          }

  module _ (rows : List Change) (keyed : Every HasKey rows) (same : with_changes rows no_rows ≡ tables_in applied v) (pages : IsTrue d.told → (have : HaveRows true (e.bytes (pages_device p)) sides (tables_in applied v)) × (rows ≡ map change_of_row have.rows)) where
    abbrev w : PartView
    w = checkpointed v (next_part_header v 2 sides) rows

    as_told : IsTrue d.told → IsTold f p w (header ∷ [])
    as_told told =
        let there = pages told in
        let t = is.told told in
        let told1 : IsTrue e.told = first.shape.told ∙ told in
        let told2 : IsTrue f.told = second.shape.told ∙ told1 in
        let read : IsReadLog p v.log = read_log p is.entries v.log t.reads in
        let reads : partition_in p (header ∷ []) ≡ Some w.log = alone p header (next_part_header v 2 sides) spells read.own in
        record {
          reads = reads;
          counts = pair_next partition_generation (partition_in p) (part_device p) (logs_of d.bytes) (logs_of f.bytes) v.which v.log w.log header t.counts
              (subst (λ dev. entries_in (f.bytes dev) ≡ Some (header ∷ [])) device (entries_stand f y.log (header ∷ []) is_log told2))
              (ap entries_in (own_kept.bytes ∙ own_kept_first.bytes)) reads refl;
          pages = there.0.rows;
          named = ap (λ (b : List ℕ). rows_from true b 0 sides) (bytes told1) ∙ there.0.read;
          rows = there.1;
          apart = ap are_distinct there.1 ∙ there.0.apart;
          settled = λ image left. subst (λ (b : List ℕ). NamedSame sides (f.bytes (pages_device p)) b) (sym (stable image left)) (named_refl sides (f.bytes (pages_device p)));
        }

    tables_now : tables_in applied v ≡ with_changes (rows ++ []) no_rows
    tables_now = sym (ap (λ cs. with_changes cs no_rows) (append-nil rows) ∙ same)

    stands : (others : List Id) → IsPartition f y p w others
    stands others = record {
      part = part ∙ is.part;
      header = names;
      which = side;
      entries = header ∷ [];
      is_log = is_log;
      some = omega arith;
      device = device;
      known = omega (arith, is.known, first.shape.count, second.shape.count);
      other = subst (λ which. IsSettled f (device_of (part_device p) which)) (sym (twice v.which)) own_settled;
      put = tt;
      last = no_last others y.last;
      rows = store_now (with_changes (rows ++ []) no_rows) (λ told. tables_now);
      keyed = keyed;
      told = λ now. as_told (sym first.shape.told ∙ sym second.shape.told ∙ now);
    }

    made : IsCheckpointed d f y p v applied
    made = record {
      view = w;
      made = record { sides = sides; rows = rows; is = refl; same = same };
      is = stands;
    }

  pub stands_told : (told : IsTrue d.told) (others : List Id) → IsPartition f y p (checkpointed v (next_part_header v 2 sides) (map change_of_row (have told).rows)) others
  stands_told told = let there = have told in stands (map change_of_row there.rows) (pages_keyed there.rows) there.tables (λ now. (there, refl))

  pub is_checkpointed : IsCheckpointed d f y p v applied
  is_checkpointed = by d.told refl
    where
      by : (told : Bool) → d.told ≡ told → IsCheckpointed d f y p v applied
      by true told = let there = have told in made (map change_of_row there.rows) (pages_keyed there.rows) there.tables (λ now. (there, refl))
      by false untold = made (v.rows ++ decided_changes applied v.log.prepared) (changed_keyed v applied v.log.prepared is.keyed is.put) refl (λ now. absurd (true_is_not_false (sym now ∙ untold)))

-- the log that is begun has nothing pending
pub other_settled : (d e : View) (x : Partition) (p : ℕ) (v : PartView) (applied : List Id) (is : IsPartition d x p v applied) → KeepsOthers (pages_device p) d e None → IsSettled e (device_of (part_device p) (other_log v.which))
other_settled d e x p v applied is first = let other = device_of (part_device p) (other_log v.which) in settled_kept d e other (first.kept other (no_page (other_log v.which) p p)) is.other

-- WHAT IT TOUCHES

module _ (d e f : View) (x : Partition) (at : stores.device_of x.rows ≡ pages_of x) where
  pub touched_first : (answer : Option DiskErr) → KeepsOthers (stores.device_of x.rows) d e answer → KeepsBut (IsTouched x) d e answer
  touched_first answer others = keeps_wider (λ dev. dev ≡ stores.device_of x.rows) (IsTouched x) d e answer (λ dev same. inl (same ∙ at)) others

  -- no memory is found then
  pub touched_gone : (answer : Option DiskErr) → KeepsOthers (stores.device_of x.rows) d e None → KeepsBut (IsTouched x) d e answer
  touched_gone answer others = let keeps = touched_first None others in record { shape = keeps.shape; kept = whatever answer ((dev : ℕ) → (IsTouched x dev → ⊥) → IsUnchanged d e dev) keeps.kept; images = keeps.images }

  pub touched : (part other : ℕ) (answer : Option DiskErr) → part ≡ x.part → other ≡ other_device x → KeepsOthers (stores.device_of x.rows) d e None
      → KeepsBut (λ dev. (dev ≡ pages_device part) ⊎ (dev ≡ other)) e f answer → KeepsBut (IsTouched x) d f answer
  touched part other answer own is first second =
      keeps_on (IsTouched x) d e f answer (touched_first None first) (keeps_wider (λ dev. (dev ≡ pages_device part) ⊎ (dev ≡ other)) (IsTouched x) e f answer wider second)
    where
      wider : (dev : ℕ) → (dev ≡ pages_device part) ⊎ (dev ≡ other) → IsTouched x dev
      wider dev (inl same) = inl (same ∙ ap pages_device own)
      wider dev (inr same) = inr (same ∙ is)

-- PAGES that are written stand on their device

pub pages_stand : (d : View) (s : RowStore) (dev : ℕ) (named : List ℕ) (t : Tables) → IsStanding d s dev named t → IsClean s → IsTrue d.told → HoldsPages (stores.page_count s) (d.bytes dev)
pages_stand d s dev named t is clean told = by (stores.page_count s) refl
  where
    by : (n : ℕ) → stores.page_count s ≡ n → HoldsPages n (d.bytes dev)
    by zero none = omega arith
    by (suc k) same =
        let end = is.kept.side_end k (omega (arith, same)) (ap (λ ds. is_dirty ds k) clean) in
        omega (arith, end, (is.told told).long)

-- as they do while the other log is begun
pub stand_behind : (d e : View) (x : Partition) (s : RowStore) (p : ℕ) (named : List ℕ) (t : Tables) → x.part ≡ p → IsStanding d s (pages_device p) named t → IsClean s → stores.page_count s ≡ page_count x
    → IsTrue d.told → (dev : ℕ) → dev ≡ other_device x → (dev ≡ pages_device x.part) ⊎ (e.bytes (pages_device x.part) ≡ d.bytes (pages_device x.part)) → HoldsPages (page_count x) (e.bytes (pages_of x))
stand_behind d e x s p named t part is clean count told dev at (inl pages) = absurd (no_page (other_log (which_of x.side)) x.part x.part (sym at ∙ pages))
stand_behind d e x s p named t part is clean count told dev at (inr same) =
    let here = subst (λ (k : ℕ). HoldsPages k (d.bytes (pages_device p))) count (pages_stand d s (pages_device p) named t is clean told) in
    subst (λ (b : List ℕ). HoldsPages (page_count x) b) (sym same) (subst (λ (k : ℕ). HoldsPages (page_count x) (d.bytes (pages_device k))) (sym part) here)

-- WHERE IT IS FULL, by devices e behind the call

module _ (d e : View) (shape : SameShape d e) (x : Partition) where
  pub full_pages : (dev : ℕ) (error : DiskErr) → dev ≡ pages_of x → FullOnly dev (d.limit dev) (page_place (page_count x) 0) (Some error) → FullAtCheckpoint e x (Some error)
  full_pages dev Failed at h = tt
  full_pages dev Stopped at h = tt
  full_pages dev Memory at h = tt
  full_pages dev (Full n) at h = inl (h.0 ∙ at, omega (arith, h.1, ap d.limit h.0, shape.limit n))

  -- no page is written any more: the header passes the limit, unless the pages did
  pub full_header : (pages other header : ℕ) (error : DiskErr) → other ≡ other_device x → header ≡ 19 + page_count x
      → ((dev : ℕ) → error ≡ Full dev → dev ≡ other → IsTrue e.told → HoldsPages (page_count x) (e.bytes (pages_of x)))
      → FullAt d pages other [] header (Some error) → FullAtCheckpoint e x (Some error)
  full_header pages other header Failed is long stand h = tt
  full_header pages other header Stopped is long stand h = tt
  full_header pages other header Memory is long stand h = tt
  full_header pages other header (Full n) is long stand (inl h) = absurd (omega (arith, h.1))
  full_header pages other header (Full n) is long stand (inr h) = inr (h.0 ∙ is, omega (arith, h.1, shape.limit n, long), stand n refl h.0)

-- how long a header is
pub header_length : (h : PartitionHeader) → length (spell_partition_header h) ≡ 19 + length h.sides
header_length h = omega arith
