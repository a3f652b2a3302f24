-- What a run has to be: its story, its lines, and how far it came.
use Rattle.salt_values.specs.declared.limits.TheConstants.{SCRIPT_MOST}
use Rattle.salt_io.specs.Lines.{lines_of}
use Rattle.salt_model.specs.Ends.{Leave, MayLeave, flight_told}
use Rattle.salt_model.specs.Everywhere.{Each}
use Rattle.salt_model.specs.Lines.{AskInOrder}
use Rattle.salt_model.specs.Next.{flight}
use Rattle.salt_model.specs.Played.{Tells}
use Rattle.salt_model.specs.Trace as trace_words
use Rattle.salt_model.specs.Trace.{Start, Trace, story_of}
use Rattle.salt_model.specs.declared.events.Event.{Event}
use Rattle.salt_model.specs.declared.events.Flight.{Flight}
use Rattle.salt_promise.specs.Doing as promise
use Rattle.salt_promise.specs.Doing.{story_before_line, text_under}
use Rattle.salt_promise.specs.Ending.{Flies}
use Rattle.salt_promise.specs.Ways.{way_of}
use Rattle.salt_promise.specs.declared.status.Status.{Status}
use Rattle.salt_promise.specs.declared.status.Status.TheVariants.{Done, NumbersSpent}
use Rattle.salt_stands.specs.Unspent.{OpensUnspent}
use Rattle.std.specs.Prelude.{List, None, Option, Some, length, ℕ, ⊤, ◌≡◌, ◌≤◌}

-- the lines that a run does of a script of these bytes, of which these are left at the run's end
abbrev pub AreLinesDone : Status → List ℕ → Option (List ℕ) → List (List ℕ) → Type 0
AreLinesDone Done script left texts = (texts ≡ lines_of script) × (length script ≤ SCRIPT_MOST)
AreLinesDone status script left texts = promise.AreLinesOf (way_of status).lines script left texts

-- where the source tells its bytes
abbrev pub AreLinesOf : Status → Option (List ℕ) → Option (List ℕ) → List (List ℕ) → Type 0
AreLinesOf status None left texts = ⊤
AreLinesOf status (Some script) left texts = AreLinesDone status script left texts

-- where a run may end, as the table of statuses has it
abbrev pub leave_of : Status → Leave
leave_of status = (way_of status).leave

-- what is told to be in flight, as that table has it; and where numbers are spent the decision that was there
abbrev pub IsFlightAt : Status → Trace → Option Flight → Type 0
IsFlightAt (NumbersSpent boot decisions) trace told = told ≡ flight_told (flight trace)
IsFlightAt status trace told = Flies (way_of status).flight trace told

-- The story is that of a trace which is played from this start, and whose lines are what the lines that were done of the script ask; and no
-- opening goes on from spent numbers.
pub record IsPlayedRun (start : Start) (status : Status) (told : Option Flight) (script left : Option (List ℕ)) (story : List Event) : Type 0 where
  pub trace : Trace
  pub texts : List (List ℕ)
  pub tells : Tells start trace story
  pub reads : AskInOrder texts (trace_words.lines_asked trace)
  pub lines : AreLinesOf status script left texts
  pub leaves : MayLeave (leave_of status) trace
  pub flies : IsFlightAt status trace told
  pub unspent : Each OpensUnspent trace

-- what the sink gained of a story's text, as that table has it: where memory ran out or the sink failed, with the text of the story before the
-- last line
abbrev pub IsWritten : Status → Option (List ℕ) → List ℕ → List ℕ → Option (List ℕ) → Type 0
IsWritten status before first text now = promise.IsWritten (way_of status).text before first text now

-- the text of a trace's story, under the tables that are defined at its end
abbrev pub IsTold : Status → Option (List ℕ) → Trace → Option (List ℕ) → Type 0
IsTold status before trace now = IsWritten status before (text_under trace (story_before_line trace)) (text_under trace (story_of trace)) now

-- the bytes that a source tells, at first and at last, and those that a sink held and holds
pub record Streams : Type 0 where
  pub script : Option (List ℕ)
  pub left : Option (List ℕ)
  pub before : Option (List ℕ)
  pub now : Option (List ℕ)

abbrev pub streams : (script left before now : Option (List ℕ)) → Streams
streams script left before now = record { script = script; left = left; before = before; now = now }

-- a script that was served: what is answered, what is told to be in flight, what was read and written, and the story
pub record ScriptRun : Type 0 where
  pub status : Status
  pub flight : Option Flight
  pub streams : Streams
  pub story : List Event

abbrev pub script_run : Status → Option Flight → Streams → List Event → ScriptRun
script_run status flight s story = record { status = status; flight = flight; streams = s; story = story }

-- a run from this start, and what it wrote
pub record IsRun (start : Start) (r : ScriptRun) : Type 0 where
  pub played : IsPlayedRun start r.status r.flight r.streams.script r.streams.left r.story
  pub told : IsTold r.status r.streams.before played.trace r.streams.now
