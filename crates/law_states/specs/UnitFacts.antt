-- What an event's unit gives to locks, waits and sources; of a trace, and of the state of units.
use Rattle.law_states.specs.KeptWaits.{Asker, asker}
use Rattle.law_states.specs.OpenUnits.{OpenUnit, UnitState, asks_next, unit_named}
use Rattle.law_states.specs.Overlays.{Edit}
use Rattle.salt_ast.specs.declared.trees.Statement.{Statement}
use Rattle.salt_model.specs.After.{kept, reach_now, run_of}
use Rattle.salt_model.specs.Kept.{Kept, schema_of}
use Rattle.salt_model.specs.Locks.{base_tables, cover_of, family_of}
use Rattle.salt_model.specs.Reaches.{reach}
use Rattle.salt_model.specs.Trace.{Trace}
use Rattle.salt_model.specs.Units.{kind_of, program_of_kind}
use Rattle.salt_model.specs.Words.{first_of_list}
use Rattle.salt_model.specs.declared.events.Event.{Event}
use Rattle.salt_model.specs.declared.events.Event.TheVariants.{Did, Early, Ended, Waits}
use Rattle.salt_model.specs.declared.events.UnitKind.{UnitKind}
use Rattle.salt_model.specs.declared.locks.Lock.{Lock}
use Rattle.salt_model.specs.declared.locks.Reach.{Reach}
use Rattle.salt_values.specs.declared.id.Id.{Id}
use Rattle.std.specs.Prelude.{List, None, Option, Some, [], option_and_then, ◌∷◌}

-- its kind, what its statement reaches, what it has changed where it ends, and what it asks for where it waits
pub record UnitFacts : Type 0 where
  pub kind : Option UnitKind
  pub reach : Option Reach
  pub changes : List Edit
  pub asks : List Asker
  -- where an opening ends early, the locks that then stand
  pub cover : List Lock

abbrev pub no_facts : UnitFacts
no_facts = record { kind = None; reach = None; changes = []; asks = []; cover = [] }

-- the first of these programs covers the base tables
abbrev pub covered_by : Kept → List Id → List Lock
covered_by k bs = cover_of [] (base_tables k) (first_of_list bs)

-- the facts of an event, by the trace before it
abbrev pub facts_at : Trace → Event → UnitFacts
facts_at trace (Did u st a) = record { kind = kind_of u trace; reach = reach_now u trace st; changes = []; asks = []; cover = [] }
facts_at trace (Ended u end) = record { kind = kind_of u trace; reach = None; changes = (run_of u trace).changes.list; asks = []; cover = [] }
facts_at trace (Waits u owners) = record { kind = kind_of u trace; reach = None; changes = []; asks = asker trace u ∷ []; cover = [] }
facts_at trace (Early bs) = record no_facts { cover = covered_by (kept trace) bs }
facts_at trace e = no_facts

-- what a statement of an open unit reaches
abbrev pub reach_under : Kept → OpenUnit → Statement → Option Reach
reach_under k o st = reach (schema_of k) o.vars st

-- an open unit with the statement that it asks for
abbrev pub asker_in : UnitState → OpenUnit → Asker
asker_in s o = record {
  unit = o.unit;
  base = program_of_kind o.kind;
  family = family_of (Some o.kind);
  asked = asks_next s o;
  reach = option_and_then (reach_under s.kept o) (asks_next s o);
}

-- what an event takes of its unit, if that is open
abbrev pub facts_of : UnitState → Event → Option OpenUnit → UnitFacts
facts_of s (Did u st a) (Some o) = record { kind = Some o.kind; reach = reach_under s.kept o st; changes = []; asks = []; cover = [] }
facts_of s (Ended u end) (Some o) = record { kind = Some o.kind; reach = None; changes = o.changes; asks = []; cover = [] }
facts_of s (Waits u owners) (Some o) = record { kind = Some o.kind; reach = None; changes = []; asks = asker_in s o ∷ []; cover = [] }
facts_of s (Early bs) o = record no_facts { cover = covered_by s.kept bs }
facts_of s e o = no_facts

-- the open unit that an event is of, before the event
abbrev pub unit_before : UnitState → Event → Option OpenUnit
unit_before s (Did u st a) = unit_named u s.units
unit_before s (Ended u end) = unit_named u s.units
unit_before s (Waits u owners) = unit_named u s.units
unit_before s e = None

-- the facts of an event, by the state before it
abbrev pub facts_in : UnitState → Event → UnitFacts
facts_in s e = facts_of s e (unit_before s e)
