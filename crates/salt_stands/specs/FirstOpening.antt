-- The first opening: what stands before the coordinator's header is there, and with it.
use Rattle.salt_bytes.specs.Coordinator.{CoordinatorHeader, header_in}
use Rattle.salt_bytes.specs.Generations.{LogA}
use Rattle.salt_bytes.specs.Partition.{PartitionHeader, partition_header_in}
use Rattle.salt_stands.specs.Coordinator.{Coordinator, Logs}
use Rattle.salt_stands.specs.CoordinatorLog.{told_by_header}
use Rattle.salt_stands.specs.Partition.{part_device}
use Rattle.salt_stands.specs.Pieces.{PartView}
use Rattle.salt_place.specs.declared.placement.Shape.{Shape}
use Rattle.std.specs.Prelude.{List, Some, [], ℕ, ⊤, ◌+◌, ◌<◌, ◌∷◌, ◌≡◌}

-- both coordinator devices are blank
pub record AreBlank (logs : Logs) : Type 0 where
  pub a : logs 0 ≡ Some []
  pub b : logs 1 ≡ Some []

abbrev pub first_header : Shape → (format : ℕ) → CoordinatorHeader
first_header shape format = record { format = format; generation = 1; shape = shape; boot = 0; decisions = 0; definitions = []; conts = [] }

abbrev pub first_part_header : (format p : ℕ) → PartitionHeader
first_part_header format p = record { format = format; generation = 1; part = p; sides = [] }

abbrev pub first_coordinator : {D : Type 0} → Shape → ℕ → Coordinator D
first_coordinator shape format = record { log = record { header = first_header shape format; told = told_by_header (first_header shape format) }; definitions = []; conts = [] }

abbrev pub first_view : ℕ → ℕ → PartView
first_view format p = record { which = LogA; log = record { header = first_part_header format p; prepared = [] }; rows = [] }

-- a log is created by one byte, unless a closed gate is there already
abbrev pub IsCreated : List ℕ → Type 0
IsCreated [] = ⊤
IsCreated (gate ∷ bytes) = gate ≡ 1

-- each log A has its header alone, each log B is blank
pub record AreMade (logs : Logs) (shape : Shape) (format part_format : ℕ) (coordinator : List ℕ) (part : ℕ → List ℕ) : Type 0 where
  pub a : logs 0 ≡ Some (coordinator ∷ [])
  pub b : logs 1 ≡ Some []
  pub part_a : (p : ℕ) → p < shape.parts → logs (part_device p) ≡ Some (part p ∷ [])
  pub part_b : (p : ℕ) → p < shape.parts → logs (part_device p + 1) ≡ Some []
  pub spells : header_in coordinator ≡ Some (first_header shape format)
  pub part_spells : (p : ℕ) → p < shape.parts → partition_header_in (part p) ≡ Some (first_part_header part_format p)
