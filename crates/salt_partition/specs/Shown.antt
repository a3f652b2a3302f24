-- What a value of `Partition` shows: its number, whether NULL is spelled in its log, the log, the unit that was prepared last, where it is
-- kept, and its rows in order of their places.
use Rattle.salt_codec.specs.declared.prepared.PreparedUnit.{PreparedUnit}
use Rattle.salt_gatelog.specs.declared.log.GateLog.{GateLog}
use Rattle.salt_model.specs.Tables.{Entry}
use Rattle.std.specs.Prelude.{Bool, List, Option, ℕ}

pub record Shown : Type 0 where
  pub part : ℕ
  pub nulls : Bool
  pub log : GateLog
  pub last : Option PreparedUnit
  pub rows : List Entry
