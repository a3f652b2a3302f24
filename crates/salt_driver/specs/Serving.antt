-- An engine and its story are those of a played trace, which goes on with each line by a whole segment, or breaks off.
use Rattle.law_states.specs.Points.{KeepsPoint, Point}
use Rattle.law_states.specs.States.{State}
use Rattle.law_story.specs.ContNames.{AreNamed}
use Rattle.salt_model.specs.Ends.{flight_told}
use Rattle.salt_model.specs.Everywhere.{Each}
use Rattle.salt_model.specs.Kept.{WellKept}
use Rattle.salt_model.specs.Phases.{Fallen, Serving, downs, has_opened, phase}
use Rattle.salt_model.specs.Played.{Tells}
use Rattle.salt_model.specs.Segments.{IsComplete}
use Rattle.salt_model.specs.Trace.{Asked, Start, Trace, from, line_asked, lines_asked, story_before}
use Rattle.salt_model.specs.Words.{Every}
use Rattle.salt_model.specs.declared.events.Event.{Event}
use Rattle.salt_model.specs.declared.events.Flight.{Flight}
use Rattle.salt_stands.specs.Unspent.{OpensUnspent}
use Rattle.salt_driver.specs.Along.{ArmsAlong}
use Rattle.salt_driver.specs.Devices.{OnDevices}
use Rattle.salt_driver.specs.Standing.{HaltsAt, IsIdleAt}
use Rattle.salt_storage.specs.declared.halt.Halt.TheVariants.{Memory}
use Rattle.salt_storage.specs.declared.halt.Halt.{Halt}
use Rattle.law_types.specs.Played.{HasKey}
use Rattle.law_types.specs.Typed.{IsTyped}
use Rattle.std.specs.Prelude.{List, Option, [], if◌then◌else◌, ℕ, ◌+◌, ◌++◌, ◌∷◌, ◌≡◌, ◌≤◌, ◌⊎◌}

-- a start that may be kept, fits its definitions and names what it continues, and lines whose tables have keys: so the laws hold of what
-- is played of them; and no opening goes on from spent numbers
pub record IsFitting (start : Start) (trace : Trace) : Type 0 where
  pub well : WellKept start.kept
  pub typed : IsTyped start.kept
  pub named : AreNamed (from start)
  pub keyed : Every HasKey (lines_asked trace)
  pub unspent : Each OpensUnspent trace

-- the engine and the story are those of a trace that is played from this start and complete
pub record ServesTrace (stands_for : Option Event → State → Type 0) (start : Start) (story : List Event) (trace : Trace) : Type 0 where
  pub tells : Tells start trace story
  pub complete : IsComplete trace
  pub fits : IsFitting start trace
  pub point : Point
  pub keeps : KeepsPoint point trace
  pub stands : IsIdleAt stands_for point

-- the story has gained events, if any
abbrev pub GainsEvents : List Event → List Event → Type 0
GainsEvents story told = (more : List Event) × (told ≡ story ++ more)

-- a trace goes on by a line and its whole segment
pub record GoesByLine (stands_for : Option Event → State → Type 0) (start : Start) (trace : Trace) (asked : Asked) (story : List Event)
    (told : List Event) : Type 0 where
  pub after : Trace
  pub asks : lines_asked after ≡ lines_asked trace ++ asked ∷ []
  pub before : story_before after ≡ story
  pub serves : ServesTrace stands_for start told after
  pub grows : GainsEvents story told
  pub armed : ArmsAlong (line_asked asked) trace after grows.0

-- it breaks off in a line: the story is that of a played trace, at whose end what is left of the devices stands, and from which the run
-- can be opened anew, unless memory ran out
pub record HaltsRun (devices : OnDevices) (flight : Option Flight) (halt : Halt) (start : Start) (told : List Event) (trace : Trace) : Type 0 where
  pub tells : Tells start trace told
  pub fits : IsFitting start trace
  pub point : Point
  pub keeps : KeepsPoint point trace
  pub serving : phase trace ≡ Serving
  pub halts : HaltsAt devices flight halt point

-- by a line and a front of its segment; or before it, for want of memory
pub record BreaksByLine (devices : OnDevices) (flight : Option Flight) (halt : Halt) (start : Start) (trace : Trace)
    (asked : Asked) (story told : List Event) : Type 0 where
  pub after : Trace
  pub asks : (lines_asked after ≡ lines_asked trace ++ asked ∷ []) ⊎ ((halt ≡ Memory) × (after ≡ trace))
  pub before : (story_before after ≡ story) ⊎ (told ≡ story)
  pub halts : HaltsRun devices flight halt start told after
  pub grows : GainsEvents story told
  pub armed : ArmsAlong (line_asked asked) trace after grows.0

-- each trace of the engine and the story goes on by the line
abbrev pub GoesOn : (old new : Option Event → State → Type 0) → (story : List Event) → Asked → (told : List Event) → Type 0
GoesOn old new story asked told = (start : Start) (trace : Trace) → ServesTrace old start story trace → GoesByLine new start trace asked story told

-- or breaks off in it
abbrev pub BreaksOff : (Option Event → State → Type 0) → OnDevices → Option Flight → Halt → (story : List Event) → Asked → (told : List Event) → Type 0
BreaksOff stands_for devices flight halt story asked told =
    (start : Start) (trace : Trace) → ServesTrace stands_for start story trace → BreaksByLine devices flight halt start trace asked story told

-- The run is down, or has not begun: the engine can be opened at the trace's end. Between the boot that is kept there and that of the
-- devices lie no more boots than openings that failed.
pub record IsDown (devices : OnDevices) (flight : Option Flight) (start : Start) (story : List Event) (trace : Trace) : Type 0 where
  pub tells : Tells start trace story
  pub fallen : phase trace ≡ Fallen
  pub fits : IsFitting start trace
  pub point : Point
  pub keeps : KeepsPoint point trace
  pub room : ℕ
  pub boots : room + 1 ≤ downs trace + (if has_opened trace then 0 else 1)
  pub again : devices.can_reopen_at room point
  pub flies : flight ≡ flight_told point.flight
