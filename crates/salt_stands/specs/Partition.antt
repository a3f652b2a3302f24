-- What a partition's devices stand for, under a coordinator.
use Rattle.salt_model.specs.Tables.{Tables, changed_at, no_rows, place_cmp, with_changes}
use Rattle.salt_model.specs.Words.{and_then}
use Rattle.salt_values.specs.Id.{has_id}
use Rattle.salt_model.specs.declared.places.Place.{Place}
use Rattle.salt_values.specs.declared.change.Change.{Change}
use Rattle.salt_values.specs.declared.value.Value.{Value}
use Rattle.salt_bytes.specs.Formats.{has_nulls}
use Rattle.salt_bytes.specs.Generations.{BothBlank, Counts, Faulty, LogB, Pair, pair_of, content_of}
use Rattle.salt_bytes.specs.Page.{TableRow, page_length, page_place, take_page}
use Rattle.salt_bytes.specs.Partition.{Prepared}
use Rattle.salt_stands.specs.Coordinator.{Coordinator, Logs, decided_for, device_of}
use Rattle.salt_stands.specs.PartitionLog.{PartitionLog, partition_generation, partition_in}
use Rattle.salt_stands.specs.Reading.{Reading}
use Rattle.salt_stands.specs.Tables.{change_of_row}
use Rattle.salt_place.specs.Placement.{place_of}
use Rattle.salt_values.specs.declared.id.Id.{Id}
use Rattle.salt_place.specs.declared.placement.Shape.{Shape}
use Rattle.std.specs.List.{list_all}
use Rattle.std.specs.Option.{ok_or}
use Rattle.std.specs.Ordering.{is_eq}
use Rattle.std.specs.Prelude.{Bool, Err, List, None, Option, Result, Some, [], drop, false, length, map, nat_le, nat_lt, not, option_map, suc, true, ℕ, ◌&&◌, ◌*◌, ◌+◌, ◌++◌, ◌==◌, ◌∷◌, ◌≤◌, ◌||◌}
use Rattle.std.specs.Bool.{then_some}
use Rattle.std.specs.Prelude.{option_and_then}

abbrev pub part_of_key : Shape → Value → ℕ
part_of_key shape key = place_of shape.kind key shape.parts

-- ROWS AND CHANGES

abbrev pub is_sound_to : {D : Type 0} → Reading D → Coordinator D → ℕ → Place → Option (List Value) → Bool
is_sound_to r c p at None = r.fits_key c.definitions at.table at.key
is_sound_to r c p at (Some row) = r.fits_row c.definitions at.table row && (part_of_key c.log.header.shape at.key == p)

-- a change in partition p: of a table that is defined, to a row of it that stands in p, or of a key of it
abbrev pub is_sound_change : {D : Type 0} → Reading D → Coordinator D → ℕ → Change → Bool
is_sound_change r c p ch = nat_lt ch.table (r.count_tables c.definitions) && is_sound_to r c p (changed_at ch) ch.row

abbrev pub is_sound_prepared : {D : Type 0} → Reading D → Coordinator D → ℕ → Prepared → Bool
is_sound_prepared r c p prepared = nat_le prepared.unit.boot c.log.told.boot && list_all (is_sound_change r c p) prepared.changes

-- THE LOG THAT COUNTS

-- a decided unit with no entry was taken into the pages by a checkpoint, of which there was none in the first generation
abbrev pub are_there : List Id → PartitionLog → Bool
are_there decided log = nat_lt 1 log.header.generation || list_all (λ u. has_id u (map (λ prepared. prepared.unit) log.prepared)) decided

-- under a coordinator of format 2 or 3 the partition has format 2
abbrev pub is_format_under : ℕ → ℕ → Bool
is_format_under coordinator format = nat_lt coordinator 2 || (format == 2)

abbrev pub is_sound_log : {D : Type 0} → Reading D → Coordinator D → ℕ → PartitionLog → Bool
is_sound_log r c p log =
    is_format_under c.log.header.format log.header.format && (are_there (decided_for p c.log.told.decided) log && list_all (is_sound_prepared r c p) log.prepared)

-- THE PAGES that its header names

abbrev pub page_at : Bool → List ℕ → ℕ → ℕ → Option (List TableRow)
page_at nulls bytes page side = option_map (λ taken. taken.0) (take_page nulls (drop (page_place page side) bytes))

-- the rows of the pages from this one on, which stand on these sides
abbrev pub rows_from : Bool → List ℕ → ℕ → List ℕ → Option (List TableRow)
rows_from nulls bytes page [] = Some []
rows_from nulls bytes page (side ∷ sides) =
    option_and_then (λ rows. option_map (λ more. rows ++ more) (rows_from nulls bytes (suc page) sides)) (page_at nulls bytes page side)

abbrev pub is_at_other : Place → Change → Bool
is_at_other p c = not (is_eq (place_cmp p (changed_at c)))

-- no key stands twice
abbrev pub are_distinct : List Change → Bool
are_distinct [] = true
are_distinct (c ∷ cs) = list_all (is_at_other (changed_at c)) cs && are_distinct cs

abbrev pub are_sound_rows : {D : Type 0} → Reading D → Coordinator D → ℕ → List Change → Bool
are_sound_rows r c p rows = list_all (is_sound_change r c p) rows && are_distinct rows

-- the rows on the pages, each as the change that puts it
abbrev pub rows_of_pages : {D : Type 0} → Reading D → Coordinator D → ℕ → PartitionLog → List ℕ → Option (List Change)
rows_of_pages r c p log bytes =
    option_and_then (λ rows. then_some (are_sound_rows r c p (map change_of_row rows)) (map change_of_row rows))
    (rows_from (has_nulls log.header.format) bytes 0 log.header.sides)

-- THE TABLES of the partition: the rows on its pages, then the changes of the units that are decided, in order of entries

abbrev pub changes_if : Bool → List Change → List Change
changes_if true cs = cs
changes_if false cs = []

abbrev pub decided_changes : List Id → List Prepared → List Change
decided_changes decided [] = []
decided_changes decided (p ∷ ps) = changes_if (has_id p.unit decided) p.changes ++ decided_changes decided ps

abbrev pub part_tables : List Id → PartitionLog → List Change → Tables
part_tables decided log rows = with_changes (rows ++ decided_changes decided log.prepared) no_rows

-- devices 2 + 3 p and 3 + 3 p are its logs, 4 + 3 p has its pages
abbrev pub part_device : ℕ → ℕ
part_device p = 2 + 3 * p

abbrev pub pages_device : ℕ → ℕ
pages_device p = 4 + 3 * p

-- so many pages stand on a device with these bytes, each on one of its sides at least
abbrev pub HoldsPages : ℕ → List ℕ → Type 0
HoldsPages n bytes = page_place n 0 ≤ length bytes + page_length

abbrev pub part_pair : ℕ → Logs → Pair PartitionLog
part_pair p logs = pair_of partition_generation (content_of (partition_in p) (logs (part_device p))) (content_of (partition_in p) (logs (part_device p + 1)))

abbrev pub judge_part : {D : Type 0} → Reading D → Coordinator D → ℕ → List ℕ → Pair PartitionLog → Result Tables ℕ
judge_part r c p pages BothBlank = Err (device_of (part_device p) LogB)
judge_part r c p pages (Faulty which) = Err (device_of (part_device p) which)
judge_part r c p pages (Counts which log) =
    and_then (ok_or (then_some (is_sound_log r c p log) log) (device_of (part_device p) which)) (λ sound.
    ok_or (option_map (part_tables (decided_for p c.log.told.decided) sound) (rows_of_pages r c p sound pages)) (pages_device p))

abbrev pub part_at : {D : Type 0} → Reading D → Coordinator D → Logs → (ℕ → List ℕ) → ℕ → Result Tables ℕ
part_at r c logs devices p = judge_part r c p (devices (pages_device p)) (part_pair p logs)
