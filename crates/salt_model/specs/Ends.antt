-- How a run may end, and what stands then.
use Rattle.salt_model.specs.After.{keep, kept, stage}
use Rattle.salt_model.specs.Kept.{Kept}
use Rattle.salt_model.specs.Trace.{Trace, story_of}
use Rattle.salt_model.specs.Next.{next}
use Rattle.salt_model.specs.Phases.{Phase, Serving, phase}
use Rattle.salt_model.specs.Segments.{IsComplete}
use Rattle.salt_model.specs.Stops.{is_device_next}
use Rattle.salt_model.specs.declared.events.Event.TheVariants.{Defined, Ended}
use Rattle.salt_model.specs.declared.events.Event.{Event}
use Rattle.salt_model.specs.declared.events.Flight.{Flight}
use Rattle.std.specs.Prelude.{Bool, IsTrue, None, Option, Some, [], false, not, true, ℕ, ⊤, ◌+◌, ◌||◌, ◌≡◌, ◌⊎◌}
use Rattle.std.specs.Option.{option_map_or}

-- how a run may end: before it begins, between lines, anywhere, within an opening, where devices are used, or where the output failed
pub data Leave : Type 0 where
  NotBegun : Leave
  AtLineEnd : Leave
  AnyPlace : Leave
  InAnOpening : Leave
  AtDevices : Leave
  AtOutput : Leave

abbrev pub is_serving : Phase → Bool
is_serving Serving = true
is_serving phase = false

abbrev pub MayLeave : Leave → Trace → Type 0
MayLeave NotBegun trace = story_of trace ≡ []
MayLeave AtLineEnd trace = IsComplete trace
MayLeave AnyPlace trace = ⊤
MayLeave InAnOpening trace = is_serving (phase trace) ≡ false
MayLeave AtDevices trace = IsTrue (not (is_serving (phase trace)) || is_device_next trace (next trace))
MayLeave AtOutput trace = IsComplete trace ⊎ IsTrue (not (is_serving (phase trace)) || is_device_next trace (next trace))

-- what is told to be in flight at the end of a trace
abbrev pub flight_told : Option Event → Option Flight
flight_told (Some (Defined n text)) = Some (Flight.Definition text)
flight_told (Some (Ended u end)) = Some (Flight.Unit u)
flight_told e = None

-- what devices may stand for at the end of a trace: what is kept there, with or without the flight
abbrev pub kept_with : Trace → Option Event → Kept
kept_with trace flight = option_map_or (λ e. keep trace e (stage trace)) flight (kept trace)

-- what is kept, so many boots later
abbrev pub raised : ℕ → Kept → Kept
raised boots k = record k { boot = k.boot + boots }
