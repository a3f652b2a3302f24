-- What collecting the bytes of a text leaves of a sink, and of the bytes that wait to be written to it.
use Rattle.salt_io.specs.Streams.{Gains, GainsShort, Rose}
use Rattle.salt_io.specs.declared.streams.IoFailed.{IoFailed}
use Rattle.std.specs.Prelude.{List, OnErr, OnOk, Option, Result, ℕ, ◌++◌, ◌≡◌, ◌≤◌}

-- A text is put behind the bytes that waited; the first of them have been put behind those that the sink held, and the others wait.
pub record Moves (old : Option (List ℕ)) (waiting text : List ℕ) (new : Option (List ℕ)) (left : List ℕ) : Type 0 where
  pub part : List ℕ
  pub gained : Gains old part new
  pub all : waiting ++ text ≡ part ++ left

-- That was done, and no fault was counted; or a write failed and was counted, and the sink has some first part of the bytes that waited and
-- of the text, and not all of it.
pub record Collects {K : Type 0} (held : K → Option (List ℕ)) (faults : K → ℕ) (old : K) (waiting : List ℕ) (new : K) (left : List ℕ)
    (result : Result (Unit {0}) IoFailed) (text : List ℕ) : Type 0 where
  pub ok : OnOk result (Moves (held old) waiting text (held new) left)
  pub same : OnOk result (faults new ≡ faults old)
  pub err : OnErr result (GainsShort (held old) (waiting ++ text) (held new))
  pub failed : OnErr result (Rose (faults old) (faults new))
  pub later : faults old ≤ faults new
