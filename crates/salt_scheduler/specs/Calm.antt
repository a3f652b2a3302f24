-- When no circle of waits can have come.
use Rattle.law_states.specs.KeptWaits.{Asker}
use Rattle.salt_conflicts.specs.Waiters.{has_program}
use Rattle.std.specs.Prelude.{Bool, List, not, ◌&&◌, ◌||◌}

-- behind what a unit has done or committed, where these wait: what a program reads, and a lock that becomes a program's, may close a
-- circle, but only through a waiting unit of a program
abbrev pub is_calm_behind : Bool → Bool → List Asker → Bool
is_calm_behind calm quiet waits = calm && (quiet || not (has_program waits))
