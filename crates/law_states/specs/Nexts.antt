-- What comes next, told by the states before and after an event; and where a segment stands.
use Rattle.law_states.specs.Follows.{opened_in, said_in, unit_of}
use Rattle.law_states.specs.OpenUnits.{next_turn_in}
use Rattle.law_states.specs.Readings.{WatchReading, beside_by, under_way_of}
use Rattle.law_states.specs.Refused.{refusal_in}
use Rattle.law_states.specs.States.{State, asked_of, turned_to}
use Rattle.law_states.specs.Told.{go_in, line_in}
use Rattle.salt_model.specs.Next.{decision_in}
use Rattle.salt_model.specs.Trace.{Asked, line_asked}
use Rattle.salt_model.specs.declared.events.Event.{Event}
use Rattle.salt_model.specs.declared.events.Event.TheVariants.{Down, Opened, Refused}
use Rattle.salt_model.specs.declared.events.Refusal.{Refusal}
use Rattle.salt_values.specs.declared.id.Id.{Id}
use Rattle.std.specs.Option.{option_or}
use Rattle.std.specs.Prelude.{None, Option, option_map}

-- the refusal of a line
abbrev pub refusal_of : State → Asked → Option Refusal
refusal_of s asked = refusal_in s.units (under_way_of s) asked

-- the first event of a line, by the state before it
abbrev pub asked_next : (s : State) → WatchReading s.watch → Asked → Option Event
asked_next s x asked =
    let now = asked_of asked s in
    option_or (option_map Refused (refusal_of s asked)) (line_in now.units (beside_by now x).clash (beside_by now x).items (line_asked asked))

-- the first event of a turn of `go all`
abbrev pub turned_next : (s : State) → WatchReading s.watch → Id → Option Event
turned_next s x b = let now = turned_to b s in go_in now.units (beside_by now x).clash b

abbrev pub next_turn_of : State → Option Id
next_turn_of s = next_turn_in s.units

-- what follows an event, by the states before and after it; and, after an Opened, by what was in flight
abbrev pub said_next : Event → (old new : State) → WatchReading new.watch → Option Event → Option Event
said_next (Down why) old new x flight = None
said_next (Opened boot n) old new x flight = opened_in new.units n flight
said_next e old new x flight = said_in new.units.phase new.units (beside_by new x) e (unit_of e old.units new.units)

-- what is in flight after an event
abbrev pub flight_next : Event → Option Event → Option Event → Option Event
flight_next (Down why) flight next = flight
flight_next e flight next = decision_in next
