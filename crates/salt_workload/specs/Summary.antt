-- What the line of a workload counts, told of each event.
use Rattle.salt_model.specs.Releasing.{released_names}
use Rattle.salt_model.specs.declared.events.Answer.{Answer}
use Rattle.salt_model.specs.declared.events.Answer.TheVariants.{Cell}
use Rattle.salt_model.specs.declared.events.End.TheVariants.{Committed, Victim}
use Rattle.salt_model.specs.declared.events.Event.{Event}
use Rattle.salt_model.specs.declared.events.Event.TheVariants.{Accepted, Began, Ended, Waits}
use Rattle.salt_values.specs.declared.value.Value.{Value}
use Rattle.std.specs.List.{flat_map}
use Rattle.std.specs.Prelude.{Bool, List, None, Option, false, length, true, ℕ}

abbrev pub is_began : Event → Bool
is_began (Began u kind) = true
is_began e = false

abbrev pub is_committed : Event → Bool
is_committed (Ended u (Committed n)) = true
is_committed e = false

abbrev pub is_accepted : Event → Bool
is_accepted (Accepted b) = true
is_accepted e = false

abbrev pub is_waits : Event → Bool
is_waits (Waits u owners) = true
is_waits e = false

abbrev pub is_victim : Event → Bool
is_victim (Ended u Victim) = true
is_victim e = false

-- how many programs were released
abbrev pub released_count : List Event → ℕ
released_count story = length (flat_map released_names story)

-- the one value that an answer is
abbrev pub cell_of : Answer → Option Value
cell_of (Cell v) = v
cell_of answer = None
