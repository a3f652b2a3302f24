-- What could be said in another way, and comes to the same.
use Rattle.salt_model.specs.After.{run_of}
use Rattle.salt_model.specs.Trace.{Trace}
use Rattle.salt_model.specs.Reads.{Written, is_written_at, last_writer, sources, writers_in, wrote_of}
use Rattle.salt_model.specs.Releasing.{ReadsThrough}
use Rattle.salt_model.specs.Tables.{Edits, is_within, place_cmp}
use Rattle.salt_values.specs.Id.{has_id}
use Rattle.salt_model.specs.declared.events.End.TheVariants.{Committed}
use Rattle.salt_model.specs.declared.events.Event.TheVariants.{Ended}
use Rattle.salt_model.specs.declared.events.Event.{Event}
use Rattle.salt_model.specs.declared.locks.Reach.{Reach}
use Rattle.salt_model.specs.declared.places.Place.{Place}
use Rattle.salt_values.specs.declared.id.Id.{Id}
use Rattle.std.specs.FinMap.Entries.{find}
use Rattle.std.specs.List.{list_any}
use Rattle.std.specs.Prelude.{Bool, IsTrue, List, Some, is_some, ⊤, ◌↔◌, ◌≡◌}

abbrev pub is_written : Place → List Written → Bool
is_written p ws = list_any (is_written_at p) ws

abbrev pub is_changed : Place → Edits → Bool
is_changed p ds = is_some (find place_cmp p ds.list)

-- the keys that a unit wrote as its statements were done are those that its changes name when it commits, done anew on the tables of the commits so far
abbrev pub WritesAtEnd : Trace → Event → Type 0
WritesAtEnd trace (Ended u (Committed n)) = (p : Place) → is_written p (wrote_of u trace) ≡ is_changed p (run_of u trace).changes
WritesAtEnd trace e = ⊤

-- the sources of a program are those that it reads through, in any number of steps
abbrev pub SourcesAreReadThrough : Trace → Type 0
SourcesAreReadThrough trace = (b c : Id) → IsTrue (has_id c (sources trace b)) ↔ ReadsThrough trace b c

-- the writers in a reach are the last writers of its places
abbrev pub WritersAreLast : Trace → Type 0
WritersAreLast trace =
    (r : Reach) (u : Id) → IsTrue (has_id u (writers_in trace (Some r))) ↔ ((p : Place) × IsTrue (is_within r p) × (last_writer trace p ≡ Some u))
