-- What the laws say, each as one fact.
use Rattle.salt_ast.specs.declared.trees.Statement.{Statement}
use Rattle.law_states.specs.Keeps.{KeepsUnit}
use Rattle.law_states.specs.OpenUnits.{OpenUnit, UnitState, asks_next, unit_named, unit_of_program, unit_of_session}
use Rattle.law_states.specs.Overlays.{AreRows, Views, rows_edited}
use Rattle.law_states.specs.Steps.{outcome_under}
use Rattle.salt_model.specs.After.{answer_now, changes_now, reach_now}
use Rattle.salt_model.specs.Kept.{Kept, WellKept, block_of_kind, schema_of}
use Rattle.salt_model.specs.Played.{IsPlayed}
use Rattle.salt_model.specs.Reaches.{reach, table_for}
use Rattle.salt_model.specs.Statements.{do_at, outcome_of}
use Rattle.salt_model.specs.Tables.{Entry, Tables}
use Rattle.salt_model.specs.Trace.{Trace, start_of}
use Rattle.salt_model.specs.Units.{program_unit, session_unit}
use Rattle.salt_model.specs.Waiting.{asked_by}
use Rattle.salt_model.specs.declared.events.Event.{Event}
use Rattle.salt_model.specs.declared.events.Event.TheVariants.{Down, Opened}
use Rattle.salt_values.specs.declared.id.Id.{Id}
use Rattle.std.specs.Prelude.{Bool, List, Some, false, length, option_map, true, ℕ, ◌<◌, ◌≡◌}

-- a trace that is played from a start that is well kept
pub record IsSound (trace : Trace) : Type 0 where
  pub played : IsPlayed trace
  pub well : WellKept (start_of trace).kept

-- what is looked up in a trace is looked up in its state
pub record LooksUp (s : UnitState) (trace : Trace) : Type 0 where
  pub sessions : (t : ℕ) → session_unit t trace ≡ option_map (λ (o : OpenUnit). o.unit) (unit_of_session t s)
  pub programs : (b : Id) → program_unit b trace ≡ option_map (λ (o : OpenUnit). o.unit) (unit_of_program b s)
  pub statements : (o : OpenUnit) → KeepsUnit trace o → asked_by o.unit trace ≡ asks_next s o
  pub within : (o : OpenUnit) (block : List Statement) (st : Statement) → block_of_kind s.kept o.kind ≡ Some block → asks_next s o ≡ Some st →
      o.done < length block

-- what a statement of an open unit reaches, answers and changes
pub record DoesUnder (trace : Trace) (k : Kept) (o : OpenUnit) (st : Statement) : Type 0 where
  pub reaches : reach_now o.unit trace st ≡ reach (schema_of k) o.vars st
  pub answers : answer_now o.unit trace st ≡ (outcome_under k o st).answer
  pub changes : changes_now o.unit trace st ≡ (outcome_under k o st).changes

-- it does the same over each view of the rows in its reach, on these rows with the edits there made, and on a list of them
pub record DoesAlike (k : Kept) (o : OpenUnit) (st : Statement) : Type 0 where
  pub in_views : (view : Tables) → Views (reach (schema_of k) o.vars st) o.changes k.tables view →
      outcome_of (schema_of k) view o.vars st ≡ outcome_under k o st
  pub on_reach :
      do_at o.vars st (table_for (schema_of k) st) (rows_edited (reach (schema_of k) o.vars st) o.changes k.tables) ≡ outcome_under k o st
  pub on_rows : (rows : List Entry) → AreRows (reach (schema_of k) o.vars st) o.changes k.tables rows →
      do_at o.vars st (table_for (schema_of k) st) rows ≡ outcome_under k o st

-- a unit of the list
abbrev pub IsListed : Trace → UnitState → Id → Type 0
IsListed trace s u = (o : OpenUnit) × (unit_named u s.units ≡ Some o) × (o.unit ≡ u) × KeepsUnit trace o

abbrev pub is_of_run : Event → Bool
is_of_run (Down why) = true
is_of_run (Opened boot n) = true
is_of_run e = false
