-- What may stand after a trace, and when nothing of a segment is missing.
use Rattle.salt_model.specs.Next.{next}
use Rattle.salt_model.specs.Phases.{Serving, phase}
use Rattle.salt_model.specs.Stops.{MayFall, MayOpen}
use Rattle.salt_model.specs.Trace.{Trace}
use Rattle.salt_model.specs.Turns.{next_turn}
use Rattle.salt_model.specs.declared.events.Event.TheVariants.{Down, Opened}
use Rattle.salt_model.specs.declared.events.Event.{Event}
use Rattle.std.specs.Prelude.{None, Some, ◌≡◌}

-- an event may stand after a trace
abbrev pub May : Trace → Event → Type 0
May trace (Down why) = MayFall (phase trace) trace why
May trace (Opened boot n) = MayOpen (phase trace) trace boot n
May trace e = next trace ≡ Some e

-- nothing is missing of the segment in which the trace ends
abbrev pub IsComplete : Trace → Type 0
IsComplete trace = (phase trace ≡ Serving) × (next trace ≡ None) × (next_turn trace ≡ None)
