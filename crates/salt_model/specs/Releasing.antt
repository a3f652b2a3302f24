-- Releases come exactly when they are due, and name exactly the programs that are releasable.
use Rattle.salt_model.specs.Continuing.{last_said}
use Rattle.salt_model.specs.Everywhere.{Each}
use Rattle.salt_model.specs.Phases.{Phase, Serving, phase}
use Rattle.salt_model.specs.Programs.{finished_in, over_in}
use Rattle.salt_model.specs.Reads.{read_directly, to_release}
use Rattle.salt_model.specs.Trace.{Trace}
use Rattle.salt_model.specs.Turns.{releases}
use Rattle.salt_model.specs.declared.events.Event.{Event}
use Rattle.salt_model.specs.declared.events.Event.TheVariants.{Finished, Released}
use Rattle.salt_values.specs.Id.{has_id}
use Rattle.salt_values.specs.declared.id.Id.{Id}
use Rattle.std.specs.Prelude.{Bool, IsTrue, List, None, Option, Some, [], false, true, ◌↔◌, ◌≡◌}

-- what is released directly after an event, outside an opening, in order of names
abbrev pub due_after : Phase → Trace → Option Event → List Id
due_after Serving trace (Some (Finished b)) = to_release trace
due_after phase trace e = []

abbrev pub released_by : Event → Option Event
released_by (Released bs) = Some (Released bs)
released_by e = None

-- a Released comes exactly where programs are due, and names them
abbrev pub ReleasesDue : Trace → Event → Type 0
ReleasesDue trace e = releases (due_after (phase trace) trace (last_said trace)) ≡ released_by e

-- Which programs are due, said without computing.

-- b is c, or reads from it, directly or through programs
pub data ReadsThrough (trace : Trace) : Id → Id → Type 0 where
  itself : {b : Id} → ReadsThrough trace b b
  through : {b c d : Id} → IsTrue (has_id c (read_directly b trace)) → ReadsThrough trace c d → ReadsThrough trace b d

-- b is finished, and so is every program that it reads from
abbrev pub IsReleasable : Trace → Id → Type 0
IsReleasable trace b = (c : Id) → ReadsThrough trace b c → IsTrue (has_id c (finished_in trace))

abbrev pub released_names : Event → List Id
released_names (Released bs) = bs
released_names e = []

-- a program has just come to its end, outside an opening
abbrev pub is_finish : Phase → Option Event → Bool
is_finish Serving (Some (Finished b)) = true
is_finish phase e = false

-- directly after it the programs are released that are releasable, not yet released and not left out, and no others
abbrev pub NamesReleasable : Trace → Event → Type 0
NamesReleasable trace e =
    IsTrue (is_finish (phase trace) (last_said trace)) →
    (b : Id) → IsTrue (has_id b (released_names e)) ↔ ((has_id b (over_in trace) ≡ false) × IsReleasable trace b)

pub record ReleasesExactly (trace : Trace) : Type 0 where
  pub due : Each ReleasesDue trace
  pub names : Each NamesReleasable trace
