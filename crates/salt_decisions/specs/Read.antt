-- What was read of a device is what its bytes say.
use Rattle.salt_bytes.specs.Coordinator.{is_number_of_parts}
use Rattle.salt_bytes.specs.Generations as pair
use Rattle.salt_bytes.specs.Generations.{content_of}
use Rattle.salt_bytes.specs.Log.{entries_in}
use Rattle.salt_decisions.specs.Said.{HasHeard, SaysTold}
use Rattle.salt_decisions.specs.declared.read.Content.TheVariants.{Blank, Log, Outside}
use Rattle.salt_decisions.specs.declared.read.Content.{Content}
use Rattle.salt_decisions.specs.declared.read.ReadLog.{ReadLog}
use Rattle.salt_decisions.specs.declared.said.Said.{Said}
use Rattle.salt_disk.specs.Disks.{View}
use Rattle.salt_gatelog.specs.Log.{IsLog, device_of}
use Rattle.salt_gatelog.specs.declared.log.GateLog.{GateLog}
use Rattle.salt_stands.specs.CoordinatorLog.{CoordinatorLog, Told, coordinator_in, hear, heard}
use Rattle.std.specs.Prelude.{Bool, IsTrue, List, None, Some, [], drop, false, slice_get, true, ℕ, ◌≡◌}

-- the payload of the entry of a number was heard, or is none that follows on
pub record HearsOne (d : View) (gate : GateLog) (parts : ℕ) (t : Told) (said : Said) (i : ℕ) (fits : Bool) : Type 0 where
  pub payload : List ℕ
  pub is_heard : HasHeard fits said (hear parts payload (Some t))
  pub stands : (entries : List (List ℕ)) → IsLog d gate entries → IsTrue d.told → Some payload ≡ slice_get entries i

-- each payload behind the first was heard: those of the log, where the disks tell them
pub record HasHeardAll (d : View) (gate : GateLog) (parts : ℕ) (t : Told) (said : Said) : Type 0 where
  pub payloads : List (List ℕ)
  pub now : Told
  pub is_heard : heard parts (Some t) payloads ≡ Some now
  pub says : SaysTold said now
  pub stand : (entries : List (List ℕ)) → IsLog d gate entries → IsTrue d.told → payloads ≡ drop 1 entries

-- or one of them is none that follows on
abbrev pub HearsAll : View → GateLog → ℕ → Told → Said → Bool → Type 0
HearsAll d gate parts t said true = HasHeardAll d gate parts t said
HearsAll d gate parts t said false = (entries : List (List ℕ)) → IsLog d gate entries → IsTrue d.told → heard parts (Some t) (drop 1 entries) ≡ None

-- the fields of what was read are those of the log
pub record IsOf (r : ReadLog) (log : CoordinatorLog) : Type 0 where
  pub format : r.format ≡ log.header.format
  pub generation : r.generation ≡ log.header.generation
  pub shape : r.shape ≡ log.header.shape
  pub conts : r.conts ≡ log.header.conts
  pub parts : is_number_of_parts r.shape.parts ≡ true
  pub says : SaysTold r.said log.told

-- A log was read from this device. Where the disks tell their bytes, it is the device's.
pub record IsReadLog (d : View) (dev : ℕ) (r : ReadLog) : Type 0 where
  pub log : CoordinatorLog
  pub is_of : IsOf r log
  pub entries : List (List ℕ)
  pub is_log : IsLog d r.gate entries
  pub device : device_of r.gate ≡ dev
  pub says : IsTrue d.told → coordinator_in entries ≡ Some log

abbrev pub HasContent : View → ℕ → Content → Type 0
HasContent d dev Blank = IsTrue d.told → entries_in (d.bytes dev) ≡ Some []
HasContent d dev (Log r) = IsReadLog d dev r
HasContent d dev Outside = IsTrue d.told → content_of coordinator_in (entries_in (d.bytes dev)) ≡ pair.Outside
