-- What holds of a run between its lines, and what a line adds.
use Rattle.salt_ast.specs.declared.lines.Line.TheVariants.{Crash}
use Rattle.salt_ast.specs.declared.lines.Line.{Line}
use Rattle.salt_io.specs.Lines.{IsReadingOf, ScriptReading, lines_of, script_of}
use Rattle.salt_io.specs.Streams.{Gains, GainsShort, IsAtEnd, bytes_before}
use Rattle.salt_io.specs.declared.lines.Next.TheVariants.{TooLong}
use Rattle.salt_io.specs.declared.lines.Next.{Next}
use Rattle.law_states.specs.States.{State}
use Rattle.salt_model.specs.Arming.{armed_by_lines}
use Rattle.salt_model.specs.Lines.{AskInOrder, Asks}
use Rattle.salt_model.specs.Trace as trace_words
use Rattle.salt_model.specs.Trace.{Asked, Rejected, Start, Trace}
use Rattle.salt_model.specs.Words.{Every}
use Rattle.salt_model.specs.declared.events.Event.{Event}
use Rattle.salt_model.specs.declared.events.Flight.{Flight}
use Rattle.salt_model.specs.declared.events.Refusal.TheVariants.{Long}
use Rattle.salt_promise.specs.Doing.{text_under}
use Rattle.salt_loop.specs.Armed.{EndsArmed, HaltsArmed, StaysArmed}
use Rattle.salt_loop.specs.Ending.{EndsServing, LeavesAt}
use Rattle.salt_loop.specs.Run.{ScriptRun, Streams}
use Rattle.salt_loop.specs.Stopping.{status_of}
use Rattle.salt_loop.specs.declared.stop.Stop.TheVariants.{Memory, WriteFault}
use Rattle.salt_loop.specs.declared.stop.Stop.{Stop}
use Rattle.law_decisions.specs.Spelled.{IsSpelledLine}
use Rattle.salt_driver.specs.Along.{StaysInSegment}
use Rattle.salt_driver.specs.Devices.{OnDevices}
use Rattle.salt_driver.specs.Serving.{GainsEvents, HaltsRun, IsDown, ServesTrace}
use Rattle.salt_storage.specs.Answers.{disk_err_of}
use Rattle.salt_storage.specs.declared.halt.Halt.TheVariants as halting
use Rattle.salt_storage.specs.declared.halt.Halt.{Halt}
use Rattle.salt_values.specs.declared.limits.TheConstants.{PICK_MOST, SCRIPT_MOST}
use Rattle.std.specs.Prelude.{Bool, Err, List, None, Ok, Option, Result, Some, [], drop, false, length, true, ℕ, ⊤, ◌++◌, ◌∷◌, ◌≡◌, ◌≤◌, ◌⊎◌}

-- The texts are the lines of the bytes that were given of a script, and the rest of it begins a line, or the source has told its end.
pub record IsAtLine (script : List ℕ) (reading : ScriptReading) (rest : Option (List ℕ)) (texts : List (List ℕ)) : Type 0 where
  pub given : List ℕ
  pub whole : Some script ≡ bytes_before given rest
  pub counted : length given ≡ reading.taken
  pub lines : texts ≡ lines_of given
  pub at_start : ((script_of given).rest ≡ []) ⊎ (reading.ended ≡ true)

-- where the source tells its bytes
abbrev pub IsAtPlace : Option (List ℕ) → ScriptReading → Option (List ℕ) → List (List ℕ) → Type 0
IsAtPlace None reading rest texts = ⊤
IsAtPlace (Some script) reading rest texts = IsAtLine script reading rest texts

-- the bytes that a reader has taken and not given, and those that its source has left
abbrev pub rest_of : ScriptReading → Option (List ℕ) → Option (List ℕ)
rest_of reading left = bytes_before reading.kept left

-- a run between its lines, from this start: of a script, over a sink that held these bytes
pub record IsServing (stands_for : Option Event → State → Type 0) (start : Start) (s : Streams) (reading : ScriptReading) (story : List Event)
    (first armed : List (ℕ × ℕ)) : Type 0 where
  pub trace : Trace
  pub arms : armed_by_lines first trace ≡ Some armed
  pub texts : List (List ℕ)
  pub serves : ServesTrace stands_for start story trace
  pub reads : AskInOrder texts (trace_words.lines_asked trace)
  pub of : IsReadingOf reading s.left
  pub place : IsAtPlace s.script reading (rest_of reading s.left) texts
  pub written : Gains s.before (text_under trace story) s.now
  pub within : reading.taken ≤ SCRIPT_MOST

-- a line's text asks; one that is too long has none here, and is told so
abbrev pub TextAsks : Option (List ℕ) → Asked → Type 0
TextAsks (Some text) asked = Asks text asked
TextAsks None asked = asked ≡ Rejected Long

-- the text of a line that was taken
abbrev pub text_of : Next → List ℕ → Option (List ℕ)
text_of TooLong line = None
text_of next line = Some line

-- the lines that texts ask: a definition is spelled, and a stop picks one of the images that there are
abbrev pub IsAskable : Line → Type 0
IsAskable (Crash pairs) = Every (λ (p : ℕ × ℕ). p.1 ≤ PICK_MOST) pairs
IsAskable line = IsSpelledLine line

-- a trace has one line more, which asks what this text does
abbrev pub AsksMore : Option (List ℕ) → Trace → Trace → Type 0
AsksMore text trace after = (asked : Asked) × TextAsks text asked × (trace_words.lines_asked after ≡ trace_words.lines_asked trace ++ asked ∷ [])

-- a line that is asked behind a trace, by its text
pub record LineBehind : Type 0 where
  pub start : Start
  pub trace : Trace
  pub text : Option (List ℕ)

abbrev pub line_behind : Start → Trace → Option (List ℕ) → LineBehind
line_behind start trace text = record { start = start; trace = trace; text = text }

-- what was told until then, and which stops are armed
pub record Moment : Type 0 where
  pub story : List Event
  pub armed : List (ℕ × ℕ)

abbrev pub moment : List Event → List (ℕ × ℕ) → Moment
moment story armed = record { story = story; armed = armed }

-- A line was done: the trace goes on by its segment, or by a front of that, a fall and the opening behind it.
pub record ContinuesRun (stands_for : Option Event → State → Type 0) (line : LineBehind) (old new : Moment) : Type 0 where
  pub after : Trace
  pub asks : AsksMore line.text line.trace after
  pub serves : ServesTrace stands_for line.start new.story after
  pub grows : GainsEvents old.story new.story
  pub armed : StaysArmed line.trace after old.armed new.armed

-- It is broken off in a line, or, for want of memory, before that was asked.
pub record BreaksIn (devices : OnDevices) (flight : Option Flight) (halt : Halt) (line : LineBehind) (old new : Moment) : Type 0 where
  pub after : Trace
  pub asks : AsksMore line.text line.trace after ⊎ ((halt ≡ halting.Memory) × (after ≡ line.trace))
  pub halts : HaltsRun devices flight halt line.start new.story after
  pub grows : GainsEvents old.story new.story
  pub armed : HaltsArmed (disk_err_of halt) line.trace after old.armed new.armed

-- a run that was broken off so ends, within the opening behind that or before it; for want of memory it goes no further
pub record EndsResuming (devices : OnDevices) (flight : Option Flight) (halt : Halt) (stop : Stop) (start : Start) (trace : Trace) (story told : List Event) : Type 0 where
  pub after : Trace
  pub lines : trace_words.lines_asked after ≡ trace_words.lines_asked trace
  pub short : halt ≡ halting.Memory → (stop ≡ Memory) × (after ≡ trace)
  pub ends : LeavesAt devices flight (status_of stop) start after told
  pub grows : GainsEvents story told
  pub along : StaysInSegment trace after grows.0

-- so a run ends in a line, or, for want of memory, before that was asked
pub record EndsIn (devices : OnDevices) (flight : Option Flight) (stop : Stop) (line : LineBehind) (old new : Moment) : Type 0 where
  pub after : Trace
  pub asks : AsksMore line.text line.trace after ⊎ ((stop ≡ Memory) × (after ≡ line.trace))
  pub ends : LeavesAt devices flight (status_of stop) line.start after new.story
  pub grows : GainsEvents old.story new.story
  pub armed : EndsArmed (status_of stop) line.trace after old.armed new.armed

-- the text of what a line has added, under the tables that are defined at the trace's end
abbrev pub added_text : Trace → (story told : List Event) → List ℕ
added_text trace story told = text_under trace (drop (length story) told)

-- what the sink has gained where a run ends in a line: nothing where memory ran out; a part of what was added where it failed; else all
abbrev pub GainsAtEnd : Stop → Option (List ℕ) → List ℕ → Option (List ℕ) → Type 0
GainsAtEnd Memory before added held = held ≡ before
GainsAtEnd WriteFault before added held = GainsShort before added held
GainsAtEnd stop before added held = Gains before added held

-- what was done is told to the sink, and this is the answer
abbrev pub EndsWriting : Result (Unit {0}) Stop → List ℕ → (before held : Option (List ℕ)) → Result (Unit {0}) Stop → Type 0
EndsWriting done text before held (Ok x) = (done ≡ Ok x) × Gains before text held
EndsWriting done text before held (Err stop) =
    ((done ≡ Err stop) ⊎ ((stop ≡ WriteFault) × (done ≡ Err Memory → ⊥))) × GainsAtEnd stop before text held

-- a line was done, and is told
pub record IsToldLine (stands_for : Option Event → State → Type 0) (line : LineBehind) (old new : Moment) (before held : Option (List ℕ)) : Type 0 where
  pub goes : ContinuesRun stands_for line old new
  pub written : Gains before (added_text goes.after old.story new.story) held

-- or a run ends in it
pub record EndsTelling (devices : OnDevices) (flight : Option Flight) (stop : Stop) (line : LineBehind) (old new : Moment) (before held : Option (List ℕ)) : Type 0 where
  pub ends : EndsIn devices flight stop line old new
  pub written : GainsAtEnd stop before (added_text ends.after old.story new.story) held

-- a run is down, and was asked nothing yet
pub record IsToBegin (devices : OnDevices) (flight : Option Flight) (start : Start) (story : List Event) (trace : Trace) : Type 0 where
  pub down : IsDown devices flight start story trace
  pub unasked : trace_words.lines_asked trace ≡ []

-- it has begun, and its opening is told
pub record IsBegun (stands_for : Option Event → State → Type 0) (start : Start) (story : List Event) (before held : Option (List ℕ)) (first armed : List (ℕ × ℕ)) : Type 0 where
  pub trace : Trace
  pub arms : armed_by_lines first trace ≡ Some armed
  pub lines : trace_words.lines_asked trace ≡ []
  pub serves : ServesTrace stands_for start story trace
  pub written : Gains before (text_under trace story) held

-- after a line: the run goes on, or the script was at its end
abbrev pub IsAfterLine : Bool → (Option Event → State → Type 0) → OnDevices → Start → ScriptRun → ScriptReading → (first armed : List (ℕ × ℕ)) → Type 0
IsAfterLine true stands_for devices start r reading first armed = IsServing stands_for start r.streams reading r.story first armed
IsAfterLine false stands_for devices start r reading first armed = EndsServing stands_for devices start r first armed × IsAtEnd r.streams.left
