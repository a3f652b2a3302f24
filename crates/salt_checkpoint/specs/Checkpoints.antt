-- What stands on devices of which not all is settled, and a checkpoint of one partition.
use Rattle.salt_checkpoint.specs.Sides.{NamedSame, SpareNamed, all_written, writes_end}
use Rattle.salt_checkpoint.specs.declared.writes.Write.{Write}
use Rattle.salt_bytes.specs.Generations.{WhichLog}
use Rattle.salt_bytes.specs.Log.{entries_in}
use Rattle.salt_bytes.specs.Partition.{partition_header_in}
use Rattle.salt_disk.specs.Disks.{FullWhere, IsImage, IsSettled, View}
use Rattle.salt_disk.specs.declared.disks.DiskErr.{DiskErr}
use Rattle.salt_model.specs.Tables.{no_rows, with_changes}
use Rattle.salt_stands.specs.Commits.{Stood, found_of, partition_count}
use Rattle.salt_stands.specs.Coordinator.{Coordinator}
use Rattle.salt_stands.specs.Partition.{is_format_under, pages_device, part_device, rows_of_pages}
use Rattle.salt_stands.specs.Pieces.{PartView, checkpointed, next_part_header, tables_at_part}
use Rattle.salt_stands.specs.Reading.{Reading}
use Rattle.salt_stands.specs.Stands.{stands_on, logs_of}
use Rattle.salt_values.specs.declared.change.Change.{Change}
use Rattle.salt_place.specs.declared.placement.Shape.{Shape}
use Rattle.std.specs.Prelude.{List, Ok, Option, Some, [], nat_le, true, ℕ, ◌+◌, ◌<◌, ◌∷◌, ◌≡◌, ◌≢◌, ◌⊎◌}

-- nothing is pending on the sides that are named: each image has the bytes there that a read gives
abbrev pub NamedSettled : List ℕ → View → ℕ → Type 0
NamedSettled sides d dev = (c : List ℕ) → d.image dev c → NamedSame sides (d.bytes dev) c

-- The coordinator and each partition stand on the devices, and nothing is pending on their logs and on the sides that the headers
-- name. On other sides writes may be pending.
pub record IsReady {D : Type 0} (r : Reading D) (d : View) (which : WhichLog) (c : Coordinator D) (v : ℕ → PartView) : Type 0 where
  pub stood : Stood r (logs_of d.bytes) d.bytes which c v
  pub two : 1 < d.count
  pub known : (p : ℕ) → p < partition_count c → pages_device p < d.count
  pub first : IsSettled d 0
  pub second : IsSettled d 1
  pub log_a : (p : ℕ) → p < partition_count c → IsSettled d (part_device p)
  pub log_b : (p : ℕ) → p < partition_count c → IsSettled d (part_device p + 1)
  pub pages : (p : ℕ) → p < partition_count c → NamedSettled (v p).log.header.sides d (pages_device p)

-- each image that a stop may leave of the devices stands for this
abbrev pub StandsAlways : {D : Type 0} → Reading D → View → Coordinator D → (ℕ → PartView) → Type 0
StandsAlways r d c v = (asked : Shape) (image : ℕ → List ℕ) → IsImage d image → stands_on r image asked ≡ Ok (found_of c v)

-- The header is the next one of partition p, these writes go to no side that the header before it names, and behind them the sides
-- that it names have rows that are the partition's tables.
pub record IsNext {D : Type 0} (r : Reading D) (c : Coordinator D) (p : ℕ) (x : PartView) (pages : List ℕ) (writes : List Write) (header : List ℕ) (format : ℕ) (sides : List ℕ) (rows : List Change) : Type 0 where
  pub spare : SpareNamed x.log.header.sides writes
  pub spells : partition_header_in header ≡ Some (next_part_header x format sides)
  pub own : x.log.header.part ≡ p
  pub first : nat_le 1 x.log.header.generation ≡ true
  pub fits : is_format_under c.log.header.format format ≡ true
  pub reads : rows_of_pages r c p (checkpointed x (next_part_header x format sides) rows).log (all_written writes pages) ≡ Some rows
  pub tables : with_changes rows no_rows ≡ tables_at_part c p x

-- WHAT AN IMAGE MAY BE while partition p is checkpointed into its other log

-- of the devices that are not touched: an image that they had, or what a read gives
pub record OthersLeft (d : View) (p other : ℕ) (image : ℕ → List ℕ) : Type 0 where
  pub each : (dev : ℕ) → dev < d.count → dev ≢ pages_device p → dev ≢ other → (d.image dev (image dev)) ⊎ (image dev ≡ d.bytes dev)

-- before its header stands: the other log is blank or as it was, and the named sides are as they were
pub record IsBefore (d : View) (p other : ℕ) (sides : List ℕ) (image : ℕ → List ℕ) : Type 0 where
  pub others : OthersLeft d p other image
  pub log : (entries_in (image other) ≡ Some []) ⊎ (image other ≡ d.bytes other)
  pub pages : NamedSame sides (d.bytes (pages_device p)) (image (pages_device p))

-- with its header, behind all writes
pub record IsBehind (d : View) (p other : ℕ) (writes : List Write) (header : List ℕ) (image : ℕ → List ℕ) : Type 0 where
  pub others : OthersLeft d p other image
  pub log : entries_in (image other) ≡ Some (header ∷ [])
  pub pages : image (pages_device p) ≡ all_written writes (d.bytes (pages_device p))

-- `Full` comes only where pages pass the limit of their device, or the header that of the other log's
abbrev pub FullAt : View → (pages other : ℕ) → List Write → (header : ℕ) → Option DiskErr → Type 0
FullAt d pages other writes header answer = FullWhere (λ dev. ((dev ≡ pages) × (d.limit dev < writes_end writes)) ⊎ ((dev ≡ other) × (d.limit dev < 10 + header))) answer
