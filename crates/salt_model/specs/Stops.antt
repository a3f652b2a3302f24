-- Where a run may fall, and how it may be opened again.
use Rattle.salt_model.specs.After.{kept, reach_now}
use Rattle.salt_model.specs.Next.{flight, is_decision, next}
use Rattle.salt_model.specs.Phases.{Fallen, Opening, Phase, Serving, downs, has_opened}
use Rattle.salt_model.specs.Trace.{Trace, ◌says◌}
use Rattle.salt_model.specs.Turns.{next_number}
use Rattle.salt_model.specs.declared.events.Event.TheVariants.{Did, Opened}
use Rattle.salt_model.specs.declared.events.Event.{Event}
use Rattle.salt_model.specs.declared.events.Why.TheVariants.{Stopped}
use Rattle.salt_model.specs.declared.events.Why.{Why}
use Rattle.std.specs.Prelude.{Bool, IsSome, IsTrue, Option, false, if◌then◌else◌, is_some, not, true, ℕ, ◌&&◌, ◌+◌, ◌<◌, ◌≡◌, ◌≤◌, ◌⊎◌}
use Rattle.std.specs.Option.{option_map_or}

-- a stop or a fault falls where devices are written or read
abbrev pub is_at_devices : Trace → Event → Bool
is_at_devices trace (Did u st answer) = is_some (reach_now u trace st)
is_at_devices trace e = is_decision e

abbrev pub is_device_next : Trace → Option Event → Bool
is_device_next trace o = option_map_or (is_at_devices trace) o false

-- the trace ends with an Opened: what may come next is the flight's decision, which is at the devices already
abbrev pub is_just_opened : Trace → Bool
is_just_opened (trace says Opened boot n) = true
is_just_opened trace = false

-- a Down: while serving, where the next missing event is at the devices; in an opening as a stop, before its Opened, or in the drain where
-- that is about to read or write them
abbrev pub MayFall : Phase → Trace → Why → Type 0
MayFall Serving trace why = IsTrue (is_device_next trace (next trace))
MayFall Opening trace why = (why ≡ Stopped) × IsTrue (not (is_just_opened trace) && is_device_next trace (next trace))
MayFall Fallen trace why = why ≡ Stopped

-- the boots that an opening may have, and its decision number: the last, or the flight's
abbrev pub MayOpen : Phase → Trace → ℕ → ℕ → Type 0
MayOpen Fallen trace boot n =
    ((kept trace).boot < boot) ×
    (boot ≤ (kept trace).boot + (downs trace + (if has_opened trace then 0 else 1))) ×
    ((n ≡ (kept trace).decisions) ⊎ (IsSome (flight trace) × (n ≡ next_number trace)))
MayOpen phase trace boot n = ⊥
