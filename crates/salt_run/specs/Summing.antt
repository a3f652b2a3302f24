-- What the sink gains in a run of the workload.
use Rattle.salt_model.specs.Summary.{summary_of}
use Rattle.salt_model.specs.Trace.{Trace, lines_asked, story_of}
use Rattle.salt_promise.specs.Doing as promise
use Rattle.salt_promise.specs.Ways.{way_of}
use Rattle.salt_promise.specs.declared.status.Status.{Status}
use Rattle.std.specs.Prelude.{List, Option, length, ℕ}

-- how much of a summary is written, as the table of statuses has it
abbrev pub IsSummary : Status → List ℕ → Option (List ℕ) → Option (List ℕ) → Type 0
IsSummary status summary before now = promise.IsSummed (way_of status).text before summary now

-- it is that of a trace: of its story and its lines, also the one in which it ends
abbrev pub IsSummed : Status → ℕ → Trace → Option (List ℕ) → Option (List ℕ) → Type 0
IsSummed status calls trace before now = IsSummary status (summary_of calls (length (lines_asked trace)) (story_of trace)) before now
