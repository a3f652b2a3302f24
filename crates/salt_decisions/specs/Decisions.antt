-- What a value of `Decisions` is tied to: the coordinator's log that counts.
use Rattle.salt_bytes.specs.Coordinator.{CoordinatorHeader, Decision, NumberedText, header_in, is_number_of_parts, spell_header}
use Rattle.salt_bytes.specs.Generations.{Counts, WhichLog, next_generation}
use Rattle.salt_bytes.specs.Log.{entries_in}
use Rattle.salt_decisions.specs.Header.{numbered_of}
use Rattle.salt_decisions.specs.HeaderPayload.{header_with}
use Rattle.salt_decisions.specs.declared.decisions.Decisions.{Decisions}
use Rattle.salt_decisions.specs.declared.header.Definition.{Definition}
use Rattle.salt_decisions.specs.declared.header_payload.TheConstants.{FORMAT}
use Rattle.salt_disk.specs.Disks.{IsSettled, View}
use Rattle.salt_gatelog.specs.Log as gates
use Rattle.salt_gatelog.specs.Log.{IsLog}
use Rattle.salt_gatelog.specs.declared.log.GateLog.{GateLog}
use Rattle.salt_stands.specs.Coordinator.{coordinator_pair, device_of}
use Rattle.salt_stands.specs.CoordinatorLog.{CoordinatorLog, Told, told_by_header}
use Rattle.salt_stands.specs.OpenConts.{do_rise, moved}
use Rattle.salt_stands.specs.Pieces as pieces
use Rattle.salt_stands.specs.Pieces.{other_log}
use Rattle.salt_stands.specs.Stands.{logs_of}
use Rattle.salt_values.specs.declared.cont.Cont.{Cont}
use Rattle.salt_values.specs.declared.id.Id.{Id}
use Rattle.salt_place.specs.declared.placement.Shape.{Shape}
use Rattle.std.specs.Prelude.{IsTrue, List, Some, [], map, true, ℕ, ◌+◌, ◌++◌, ◌<◌, ◌∷◌, ◌≡◌, ◌⊎◌}

-- the device of the log, and where its closed gate stands
abbrev pub device_in : Decisions → ℕ
device_in x = gates.device_of x.gate

abbrev pub gate_in : Decisions → ℕ
gate_in x = gates.gate_of x.gate

abbrev pub count_in : Decisions → ℕ
count_in x = gates.count_of x.gate

abbrev pub last_boot : Decisions → ℕ
last_boot x = x.boot

abbrev pub last_decision : Decisions → ℕ
last_decision x = x.decisions

abbrev pub numbers_in : Decisions → ℕ × ℕ
numbers_in x = (last_boot x, last_decision x)

abbrev pub definitions_in : Decisions → List Definition
definitions_in x = x.definitions

abbrev pub conts_in : Decisions → List Cont
conts_in x = x.conts

-- these continuations are open, where the header's are in order and each move goes on from those before it
abbrev pub AreOpen : List Cont → CoordinatorLog → Type 0
AreOpen conts log = do_rise log.header.conts ≡ true → (cs : List Cont) → moved log.header.format (Some log.header.conts) log.told.decided ≡ Some cs → conts ≡ cs

-- what it says is what the log says, and it has the continuations that are open
pub record HoldsLog (x : Decisions) (log : CoordinatorLog) : Type 0 where
  pub format : x.format ≡ log.header.format
  pub generation : x.generation ≡ log.header.generation
  pub shape : x.shape ≡ log.header.shape
  pub boot : last_boot x ≡ log.told.boot
  pub decisions : last_decision x ≡ log.told.decisions
  pub definitions : map numbered_of (definitions_in x) ≡ log.told.definitions
  pub conts : AreOpen (conts_in x) log
  pub parts : is_number_of_parts x.shape.parts ≡ true

-- The log counts of the coordinator's pair, and nothing is pending on either device. What it says is that of the device's
-- bytes, where the disks tell them.
pub record IsCounting (d : View) (gate : GateLog) (which : WhichLog) (log : CoordinatorLog) : Type 0 where
  pub entries : List (List ℕ)
  pub is_log : IsLog d gate entries
  pub device : gates.device_of gate ≡ device_of 0 which
  pub known : 1 < d.count
  pub other : IsSettled d (device_of 0 (other_log which))
  pub counts : IsTrue d.told → coordinator_pair (logs_of d.bytes) ≡ Counts which log

pub record IsDecisions (d : View) (x : Decisions) (which : WhichLog) (log : CoordinatorLog) : Type 0 where
  pub own : x.which ≡ which
  pub holds : HoldsLog x log
  pub counting : IsCounting d x.gate which log

-- WHAT ONE ENTRY MORE MAKES of the log

abbrev pub log_with : CoordinatorLog → Told → CoordinatorLog
log_with log told = record log { told = told }

abbrev pub booted : CoordinatorLog → CoordinatorLog
booted log = log_with log (record log.told { boot = log.told.boot + 1 })

abbrev pub defined : CoordinatorLog → NumberedText → CoordinatorLog
defined log t = log_with log (record log.told { decisions = t.number; definitions = log.told.definitions ++ t ∷ [] })

abbrev pub decided : CoordinatorLog → Decision → CoordinatorLog
decided log d = log_with log (record log.told { decisions = d.number; decided = log.told.decided ++ d ∷ [] })

-- the device's entries are those from before, or those and one with this payload
pub record HasMore (before after : List ℕ) (payload : List ℕ) : Type 0 where
  pub entries : List (List ℕ)
  pub was : entries_in before ≡ Some entries
  pub now : entries_in after ≡ Some (entries ++ payload ∷ [])

abbrev pub IsBeforeOrWith : List ℕ → List ℕ → List ℕ → Type 0
IsBeforeOrWith before payload bytes = (entries_in bytes ≡ entries_in before) ⊎ HasMore before bytes payload

-- WHAT COMES NEXT: a definition with this text, a unit with the bits of its partitions and its move

abbrev pub next_definition : Decisions → List ℕ → NumberedText
next_definition x text = record { number = last_decision x + 1; text = text }

abbrev pub next_decision : Decisions → Id → ℕ → List ℕ → Decision
next_decision x unit parts mv = record { number = last_decision x + 1; unit = unit; mask = parts; move = mv }

abbrev pub shape_of : Decisions → Shape
shape_of x = x.shape

abbrev pub format_of : Decisions → ℕ
format_of x = x.format

-- A SNAPSHOT: the header that the other log begins with, what is spelled of it, and the log that it begins

abbrev pub next_header : CoordinatorLog → List Cont → CoordinatorHeader
next_header log conts = pieces.next_header log conts FORMAT

abbrev pub snapshotted : CoordinatorLog → List Cont → CoordinatorLog
snapshotted log conts = record { header = next_header log conts; told = told_by_header (next_header log conts) }

abbrev pub snapshot_payload : Decisions → List ℕ
snapshot_payload x = spell_header (header_with (next_generation x.generation) x.shape x.boot x.decisions x.definitions x.conts)

-- what it may leave of the other log's device: the bytes from before, nothing, or the header alone, which is read from there
abbrev pub IsSnapshotImage : List ℕ → CoordinatorHeader → List ℕ → List ℕ → Type 0
IsSnapshotImage before header payload bytes = (bytes ≡ before) ⊎ ((entries_in bytes ≡ Some []) ⊎ ((entries_in bytes ≡ Some (payload ∷ [])) × (header_in payload ≡ Some header)))

-- the device begins with this header, which is read from its one payload
pub record BeginsWith (d : View) (dev : ℕ) (header : CoordinatorHeader) (payload : List ℕ) : Type 0 where
  pub entries : IsTrue d.told → entries_in (d.bytes dev) ≡ Some (payload ∷ [])
  pub reads : header_in payload ≡ Some header

abbrev pub HasSameEntries : List ℕ → List ℕ → Type 0
HasSameEntries before bytes = entries_in bytes ≡ entries_in before
