-- What the commits of a run have sent over messages behind a trace: each goes by the rule of turns, from the last opening on.
use Rattle.salt_ast.specs.declared.lines.Line.TheVariants.{Net}
use Rattle.salt_ast.specs.declared.lines.Line.{Line}
use Rattle.salt_model.specs.After.{kept, run_of}
use Rattle.salt_model.specs.Trace.{Trace, line_of, over_events}
use Rattle.salt_model.specs.declared.events.End.TheVariants.{Branched, Committed}
use Rattle.salt_model.specs.declared.events.Event.TheVariants.{Armed, Ended, Opened}
use Rattle.salt_model.specs.declared.events.Event.{Event}
use Rattle.salt_model.specs.declared.places.Place.{Place}
use Rattle.salt_net.specs.Turns.{Turning, commits}
use Rattle.salt_place.specs.declared.placement.Shape.{Shape}
use Rattle.salt_stands.specs.Placed.{nodes_in}
use Rattle.salt_values.specs.declared.change.Change.{Change}
use Rattle.salt_values.specs.declared.id.Id.{Id}
use Rattle.salt_values.specs.declared.value.Value.{Value}
use Rattle.std.specs.Prelude.{List, Option, [], if◌then◌else◌, map, ℕ, ◌++◌, ◌==◌}

-- what becomes of the row at a place, as a change
abbrev pub change_at : Place × Option (List Value) → Change
change_at d = record { table = d.0.table; key = d.0.key; row = d.1 }

-- what the statements of an open unit change, in order of tables and keys
abbrev pub changes_of : Id → Trace → List Change
changes_of u trace = map change_at (run_of u trace).changes.list

-- nothing has happened, no message was taken, and no pair waits
abbrev pub no_turns : Turning
no_turns = record { events = []; taken = 0; waiting = [] }

-- what `net` arms waits behind the others; what `crash` arms befalls no message
abbrev pub with_pairs : Line → List (ℕ × ℕ) → Turning → Turning
with_pairs (Net asked) pairs t = record { events = t.events; taken = t.taken; waiting = t.waiting ++ pairs }
with_pairs line pairs t = t

-- what an event makes of it, in the segment of this line, in this boot, and with these changes of its unit; a branch makes none. A unit of
-- an earlier boot committed before the opening behind which it is told again.
abbrev pub turned : Shape → Line → (boot : ℕ) → List Change → Event → Turning → Turning
turned shape line boot cs (Opened number n) t = no_turns
turned shape line boot cs (Armed pairs) t = with_pairs line pairs t
turned shape line boot cs (Ended u (Committed n)) t = if u.boot == boot then commits u (nodes_in shape cs) t else t
turned shape line boot cs (Ended u (Branched n c)) t = if u.boot == boot then commits u [] t else t
turned shape line boot cs e t = t

-- the changes of an event's unit, where it ends
abbrev pub changes_ended : Trace → Event → List Change
changes_ended trace (Ended u end) = changes_of u trace
changes_ended trace e = []

-- behind a trace
abbrev pub turning : Shape → Trace → Turning
turning shape = over_events (λ k. no_turns) (λ trace e t. turned shape (line_of trace) (kept trace).boot (changes_ended trace e) e t)
