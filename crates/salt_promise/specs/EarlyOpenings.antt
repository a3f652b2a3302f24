-- Behind an early opening: what ACID units don't see of the programs that it names, and which turns these have.
use Rattle.salt_model.specs.Isolation.{IsChain}
use Rattle.salt_model.specs.Trace.{Trace, from, over_events, ◌asks◌, ◌says◌, ◌turns◌}
use Rattle.salt_model.specs.Turns.{next_to_go, turn_owed}
use Rattle.salt_model.specs.Units.{program_of}
use Rattle.salt_model.specs.Waiting.{is_acid}
use Rattle.salt_model.specs.declared.events.Event.{Event}
use Rattle.salt_model.specs.declared.events.Event.TheVariants.{Did, Early, Ready, Released}
use Rattle.salt_values.specs.Id.{has_id, without}
use Rattle.salt_values.specs.declared.id.Id.{Id}
use Rattle.std.specs.List.{list_all}
use Rattle.std.specs.Option.{option_map_or}
use Rattle.std.specs.Prelude.{IsTrue, List, None, Some, [], false, not, ⊤, ◌≡◌}

-- HELD BACK are the programs that the last early opening names, until a Released names them, or a Ready comes.

abbrev pub held_back : Trace → List Id
held_back = over_events (λ k. []) (λ trace e held. elim e [ Early bs ↦ bs | Released bs ↦ without bs held | Ready ↦ [] | _ ↦ held ])

-- at a Did of an ACID unit, no chain from it comes to a subtransaction of a program that is held back
abbrev pub HidesHeldBack : Trace → Event → Type 0
HidesHeldBack trace (Did a st answer) =
    IsTrue (is_acid trace a) → (chain : List Id) → IsChain (trace says Did a st answer) a chain →
    IsTrue (list_all (λ u. not (option_map_or (λ b. has_id b (held_back trace)) (program_of u trace) false)) chain)
HidesHeldBack trace e = ⊤

-- TURNS: a line that does something gives one to the least of the named programs that is unfinished and does not wait.

-- the next line is asked where no turn is owed; and behind the turns of `go all`, if the line is that, there is none but the one that is owed
abbrev pub GivesTurns : Trace → Type 0
GivesTurns (from k) = ⊤
GivesTurns (trace asks asked) = GivesTurns trace × (turn_owed trace ≡ None)
GivesTurns (trace turns b) = GivesTurns trace × (next_to_go trace ≡ None → turn_owed trace ≡ Some b)
GivesTurns (trace says e) = GivesTurns trace
