-- What writing a text leaves of a sink.
use Rattle.salt_io.specs.Streams.{Gains, GainsShort, Rose}
use Rattle.salt_io.specs.declared.streams.IoFailed.{IoFailed}
use Rattle.std.specs.Prelude.{List, OnErr, OnOk, Option, Result, ℕ, ◌≡◌, ◌≤◌}

-- The text was put behind what the sink held, and no fault was counted; or a write failed and was counted, and some first part of the
-- text was put there, and not all of it.
pub record Sends {K : Type 0} (held : K → Option (List ℕ)) (faults : K → ℕ) (old new : K) (result : Result (Unit {0}) IoFailed) (text : List ℕ) : Type 0 where
  pub ok : OnOk result (Gains (held old) text (held new))
  pub same : OnOk result (faults new ≡ faults old)
  pub err : OnErr result (GainsShort (held old) text (held new))
  pub failed : OnErr result (Rose (faults old) (faults new))
  pub later : faults old ≤ faults new
