-- Where a device of a store is full: what is written there would pass its limit. All is said by the bytes of the devices behind the call.
use Rattle.salt_bytes.specs.Coordinator.{Boots, CoordinatorEntry, Decides, Defines}
use Rattle.salt_commit.specs.Shares.{mask_of, shares_of}
use Rattle.salt_disk.specs.Disks.{View}
use Rattle.salt_parts.specs.Openings.{IsPagesOf}
use Rattle.salt_place.specs.declared.placement.Shape.{Shape}
use Rattle.salt_promise.specs.Filling.{EntryFills, RenewalFills, ShareFills, ShareRoomFills}
use Rattle.salt_stands.specs.CoordinatorLog.{CoordinatorLog}
use Rattle.salt_values.specs.declared.change.Change.{Change}
use Rattle.salt_values.specs.declared.id.Id.{Id}
use Rattle.std.specs.Prelude.{List, ℕ, ◌+◌, ◌⊎◌}

-- WHAT COMES NEXT in the coordinator's log

abbrev pub next_boot : CoordinatorLog → CoordinatorEntry
next_boot log = Boots (log.told.boot + 1)

abbrev pub next_definition : List ℕ → CoordinatorLog → CoordinatorEntry
next_definition text log = Defines (record { number = log.told.decisions + 1; text = text })

-- a unit, with the bits of the partitions that it changes, and its program's move as it is spelled
abbrev pub next_unit : Shape → Id → List Change → List ℕ → CoordinatorLog → CoordinatorEntry
next_unit shape u cs mv log = Decides (record { number = log.told.decisions + 1; unit = u; mask = mask_of (shares_of shape cs); move = mv })

-- the entry, or the room for it
abbrev pub EntryOrRoomFills : (d : View) → Shape → (CoordinatorLog → CoordinatorEntry) → ℕ → Type 0
EntryOrRoomFills d shape entry dev = EntryFills d entry dev ⊎ RenewalFills d shape dev

-- of a unit that is committed: its decision, one of its shares, pages behind the decision, or the room for all of them
abbrev pub CommitFills : (d : View) → Shape → Id → List Change → List ℕ → ℕ → Type 0
CommitFills d shape u cs mv dev =
    EntryOrRoomFills d shape (next_unit shape u cs mv) dev ⊎ (ShareFills d shape u cs dev ⊎ (IsPagesOf shape.parts dev ⊎ ShareRoomFills d shape cs dev))
