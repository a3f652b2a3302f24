-- What a value of `Decisions` shows: which log of the pair counts, the log's own gate, what the log tells, and which continuations are open.
use Rattle.salt_bytes.specs.Generations.{WhichLog}
use Rattle.salt_decisions.specs.declared.header.Definition.{Definition}
use Rattle.salt_gatelog.specs.declared.log.GateLog.{GateLog}
use Rattle.salt_place.specs.declared.placement.Shape.{Shape}
use Rattle.salt_values.specs.declared.cont.Cont.{Cont}
use Rattle.std.specs.Prelude.{List, ℕ}

pub record Shown : Type 0 where
  pub which : WhichLog
  pub gate : GateLog
  pub format : ℕ
  pub generation : ℕ
  pub shape : Shape
  pub boot : ℕ
  pub decisions : ℕ
  pub definitions : List Definition
  pub conts : List Cont
