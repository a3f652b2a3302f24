-- The BASE programs: accepted, finished, released, and those that are under way.
use Rattle.salt_model.specs.Trace.{Trace, from, over_events, ◌asks◌, ◌says◌, ◌turns◌}
use Rattle.salt_model.specs.Units.{kind_of, open_units, program_begun, program_of_kind}
use Rattle.salt_model.specs.declared.events.Event.TheVariants.{Accepted, Began, Early, Finished, Ready, Released}
use Rattle.salt_values.specs.Id.{has_id, in_order, without}
use Rattle.salt_values.specs.declared.id.Id.{Id}
use Rattle.std.specs.List.{filter_map, list_any}
use Rattle.std.specs.Prelude.{Bool, List, None, Some, [], if◌then◌else◌, map, option_and_then, ◌++◌, ◌∷◌}

-- programs, in the order of their Accepted, Finished
abbrev pub accepted_in : Trace → List Id
accepted_in = over_events (λ k. map (λ c. c.base) k.kept.conts) (λ trace e bs. elim e [ Accepted b ↦ bs ++ b ∷ [] | _ ↦ bs ])

abbrev pub finished_in : Trace → List Id
finished_in = over_events (λ k. []) (λ trace e bs. elim e [ Finished b ↦ bs ++ b ∷ [] | _ ↦ bs ])

-- programs that have an event: those that go on from the start, and those with a unit
abbrev pub programs_in : Trace → List Id
programs_in = over_events (λ k. map (λ c. c.base) k.kept.conts) (λ trace e bs. elim e
    [ Began u kind ↦ elim (program_of_kind kind) [ None ↦ bs | Some b ↦ bs ++ b ∷ [] ] | _ ↦ bs ])

-- the programs that the last early opening names
abbrev pub named_early : Trace → List Id
named_early = over_events (λ k. []) (λ trace e names. elim e [ Early bs ↦ bs | _ ↦ names ])

-- the accepted programs that an early opening does not name: it found them finished, and no Released will name them
abbrev pub left_out : Trace → List Id
left_out = over_events (λ k. []) (λ trace e out. elim e [ Early bs ↦ out ++ without bs (accepted_in trace) | _ ↦ out ])

-- the programs that an early opening found and did not name
abbrev pub passed_in : Trace → List Id
passed_in (from k) = []
passed_in (trace asks asked) = passed_in trace
passed_in (trace turns b) = passed_in trace
passed_in (trace says Early bs) = passed_in trace ++ without bs (programs_in trace)
passed_in (trace says e) = passed_in trace

abbrev pub shares : List Id → List Id → Bool
shares bs cs = list_any (λ b. has_id b cs) bs

-- where these are released: the programs that an early opening which names one of them found, and did not name
abbrev pub freed_by : List Id → Trace → List Id
freed_by bs = over_events (λ k. []) (λ trace e freed. elim e
    [ Early names ↦ (if shares names bs then without names (programs_in trace) ++ freed else freed) | _ ↦ freed ])

-- programs that are named by a Released or freed by it, or that have an event before a Ready
abbrev pub released_in : Trace → List Id
released_in = over_events (λ k. []) (λ trace e rs. elim e [ Released bs ↦ freed_by bs trace ++ (rs ++ bs) | Ready ↦ rs ++ programs_in trace | _ ↦ rs ])

-- released, or to be so without being named
abbrev pub over_in : Trace → List Id
over_in trace = left_out trace ++ released_in trace

-- accepted, and neither released nor left out
abbrev pub unreleased : Trace → List Id
unreleased trace = in_order (without (over_in trace) (accepted_in trace))

-- in their first part, or accepted, and neither released nor left out
abbrev pub under_way : Trace → List Id
under_way trace = in_order (unreleased trace ++ filter_map (λ u. option_and_then program_begun (kind_of u trace)) (open_units trace))
