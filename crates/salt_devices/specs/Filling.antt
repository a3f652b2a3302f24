-- Where a write would pass a device's limit, told by the bytes of the devices.
use Rattle.salt_bytes.specs.Conts.{spell_move}
use Rattle.salt_commit.specs.Full.{CommitFills, EntryOrRoomFills, next_boot, next_definition}
use Rattle.salt_commit.specs.Openings.{StorePassesLimit}
use Rattle.salt_decisions.specs.declared.header_payload.TheConstants.{FORMAT}
use Rattle.salt_disk.specs.Disks.{View}
use Rattle.salt_parts.specs.Openings.{IsPagesOf}
use Rattle.salt_place.specs.declared.placement.Shape.{Shape}
use Rattle.salt_promise.specs.Filling.{MigrationFills}
use Rattle.salt_storage.specs.Writing.{OfBoot, OfDefinition, OfOpening, OfUnit, ToWrite}
use Rattle.std.specs.Prelude.{IsTrue, ℕ, ◌⊎◌}

-- an opening applies decided units in the pages of partitions, and so does a unit's commit behind its decision; and it takes an older
-- format into the newest
abbrev pub FillsDevice : View → Shape → ToWrite → ℕ → Type 0
FillsDevice d shape OfOpening dev = StorePassesLimit d shape dev ⊎ (IsPagesOf shape.parts dev ⊎ MigrationFills d shape dev)
FillsDevice d shape OfBoot dev = EntryOrRoomFills d shape next_boot dev
FillsDevice d shape (OfDefinition text) dev = EntryOrRoomFills d shape (next_definition text) dev
FillsDevice d shape (OfUnit u cs m) dev = CommitFills d shape u cs (spell_move FORMAT m) dev

-- what is to be written would pass the limit of the device; of disks that do not tell their bytes nothing is said
abbrev pub FillsIn : View → Shape → ToWrite → ℕ → Type 0
FillsIn d shape w dev = IsTrue d.told → FillsDevice d shape w dev
