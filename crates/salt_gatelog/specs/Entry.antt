-- Entries of a log, as they are read back.
use Rattle.salt_gatelog.specs.Log.{StandsAt, count_of, device_of, gate_of}
use Rattle.salt_gatelog.specs.declared.log.GateLog.{GateLog}
use Rattle.std.specs.Prelude.{List, length, ℕ, ◌+◌, ◌≡◌, ◌≤◌}

-- An entry with this payload stands at a place, and ends before the closed gate or at it.
pub record EntryEnds (payload bytes : List ℕ) (at end : ℕ) : Type 0 where
  pub stands : StandsAt payload bytes at
  pub ends : at + 9 + length payload ≤ end

-- the same log, whatever entry was found last
pub record HasMoved (old new : GateLog) : Type 0 where
  pub device : device_of new ≡ device_of old
  pub gate : gate_of new ≡ gate_of old
  pub count : count_of new ≡ count_of old

-- the same log, with its first entry found
pub record IsAtFirst (old new : GateLog) : Type 0 where
  pub same : HasMoved old new
  pub next : new.next ≡ 0
  pub place : new.place ≡ 0
  pub block : new.block ≡ old.block
