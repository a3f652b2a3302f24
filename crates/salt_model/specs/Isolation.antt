-- What ACID units see of BASE programs: chains of readers, and whole programs.
use Rattle.salt_model.specs.After.{reach_now}
use Rattle.salt_model.specs.Locks.{Taken, taken_in, touches}
use Rattle.salt_model.specs.Trace.{Trace, over_events, ◌says◌}
use Rattle.salt_model.specs.Programs.{released_in}
use Rattle.salt_model.specs.Units.{Over, Standing, is_of_program, is_open_standing, program_of, standing}
use Rattle.salt_model.specs.Everywhere.{Each}
use Rattle.salt_model.specs.Reads.{writers_in}
use Rattle.salt_model.specs.Waiting.{is_acid}
use Rattle.salt_values.specs.Id.{has_id}
use Rattle.salt_model.specs.declared.events.End.TheVariants.{Committed}
use Rattle.salt_model.specs.declared.events.Event.TheVariants.{Did}
use Rattle.salt_model.specs.declared.events.Event.{Event}
use Rattle.salt_model.specs.declared.locks.Reach.{Reach}
use Rattle.salt_values.specs.Id.{is_same_id}
use Rattle.salt_values.specs.declared.id.Id.{Id}
use Rattle.std.specs.List.{list_all, list_any}
use Rattle.std.specs.Option.{option_map_or}
use Rattle.std.specs.Prelude.{Bool, IsTrue, List, Option, [], false, if◌then◌else◌, not, true, ⊤, ◌&&◌, ◌++◌, ◌||◌, ◌∷◌}

-- the units that u reads from at a trace: the last writers of keys that its statements reached
abbrev pub read_by : Id → Trace → List Id
read_by u = over_events (λ k. []) (λ trace e us. elim e
    [ Did v st answer ↦ (if is_same_id u v then writers_in trace (reach_now v trace st) ++ us else us) | _ ↦ us ])

-- a chain from u: each unit reads from the next, or they are subtransactions of one program
abbrev pub IsChain : Trace → Id → List Id → Type 0
IsChain trace u [] = ⊤
IsChain trace u (v ∷ vs) = IsTrue (has_id v (read_by u trace) || option_map_or (λ b. is_of_program b trace v) (program_of u trace) false) × IsChain trace v vs

abbrev pub is_program_released : Trace → Option Id → Bool
is_program_released trace o = option_map_or (λ b. has_id b (released_in trace)) o true

-- at a Did of an ACID unit, each program with a subtransaction in a chain from it is released before
abbrev pub ReadsReleased : Trace → Event → Type 0
ReadsReleased trace (Did a st answer) =
    IsTrue (is_acid trace a) → (chain : List Id) → IsChain (trace says Did a st answer) a chain →
    IsTrue (list_all (λ u. is_program_released trace (program_of u trace)) chain)
ReadsReleased trace e = ⊤

abbrev pub IsSalted : Trace → Type 0
IsSalted trace = Each ReadsReleased trace

abbrev pub is_committed_standing : Standing → Bool
is_committed_standing (Over (Committed n)) = true
is_committed_standing s = false

-- a part counts while it is open, and once it has committed
abbrev pub is_open_or_committed : Standing → Bool
is_open_or_committed s = is_open_standing s || is_committed_standing s

abbrev pub is_unreleased_part : Trace → Taken → Bool
is_unreleased_part trace t = is_open_or_committed (standing t.unit trace) && not (is_program_released trace (program_of t.unit trace))

abbrev pub touches_unreleased : Trace → Option Reach → Bool
touches_unreleased trace o = option_map_or (λ r. list_any (λ t. touches t.reach r && is_unreleased_part trace t) (taken_in trace)) o false

-- what an ACID unit touches of a program's open and committed parts, it touches when the program is released
abbrev pub TouchesWhole : Trace → Event → Type 0
TouchesWhole trace (Did a st answer) = IsTrue (is_acid trace a) → IsTrue (not (touches_unreleased trace (reach_now a trace st)))
TouchesWhole trace e = ⊤

abbrev pub IsWhole : Trace → Type 0
IsWhole trace = Each TouchesWhole trace
