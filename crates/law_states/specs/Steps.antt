-- What an event, a line and a turn of `go all` make of the state of units and tables.
use Rattle.law_states.specs.OpenUnits.{OpenUnit, UnitState, change_unit, count_on, next_to_go_in, unit_named, without_unit}
use Rattle.law_states.specs.Overlays.{put_all, with_edits}
use Rattle.salt_ast.specs.declared.lines.Line.{Line}
use Rattle.salt_ast.specs.declared.lines.Line.TheVariants.{GoAll, Nothing}
use Rattle.salt_ast.specs.declared.trees.Statement.{Statement}
use Rattle.salt_model.specs.After.{defined_by}
use Rattle.salt_model.specs.Kept.{Kept, conts_branched, conts_committed, schema_of, vars_of_kind}
use Rattle.salt_model.specs.Phases.{Fallen, Opening, Serving}
use Rattle.salt_model.specs.Statements.{Done, outcome_of}
use Rattle.salt_model.specs.Trace.{Asked, Trace, Tree, from, line_asked, ◌asks◌, ◌says◌, ◌turns◌}
use Rattle.salt_model.specs.Turns.{does_something, ids_after, is_statement_line}
use Rattle.salt_model.specs.Units.{program_begun}
use Rattle.salt_model.specs.Waiting.{statement_of_line}
use Rattle.salt_model.specs.declared.events.End.{End}
use Rattle.salt_model.specs.declared.events.End.TheVariants.{Branched, Committed}
use Rattle.salt_model.specs.declared.events.Event.{Event}
use Rattle.salt_model.specs.declared.events.Event.TheVariants.{Began, Defined, Did, Down, Early, Ended, Opened, Ready, Refused, Waits}
use Rattle.salt_model.specs.declared.events.UnitKind.{UnitKind}
use Rattle.salt_values.specs.Id.{in_order}
use Rattle.salt_values.specs.declared.cont.Cont.{Cont}
use Rattle.salt_values.specs.declared.id.Id.{Id}
use Rattle.std.specs.Prelude.{Bool, List, None, Option, Some, [], false, if◌then◌else◌, is_some, map, true, ℕ, ◌&&◌, ◌++◌, ◌+◌, ◌∷◌}

-- what a statement does on the tables under a unit's edits
abbrev pub outcome_under : Kept → OpenUnit → Statement → Done
outcome_under k o st = outcome_of (schema_of k) (with_edits o.changes k.tables) o.vars st

-- a unit as it begins
abbrev pub begun : UnitState → Id → UnitKind → OpenUnit
begun s u kind = record {
  unit = u;
  kind = kind;
  single = is_statement_line s.line;
  waiting = false;
  asks = None;
  done = 0;
  vars = vars_of_kind s.kept kind;
  changes = [];
}

-- a unit after what a statement of its did
abbrev pub having_done : Done → OpenUnit → OpenUnit
having_done d o = record o { waiting = false; asks = None; done = count_on o.kind o.done; vars = d.vars; changes = put_all d.changes o.changes }

abbrev pub doing_one : Kept → Statement → OpenUnit → OpenUnit
doing_one k st o = having_done (outcome_under k o st) o

-- a unit that waits from this line on
abbrev pub waiting_by : Line → OpenUnit → OpenUnit
waiting_by line o = record o { waiting = true; asks = statement_of_line line }

-- a commit makes the unit's edits in the tables
abbrev pub kept_committed : Kept → ℕ → OpenUnit → Kept
kept_committed k n o = record k { decisions = n; tables = with_edits o.changes k.tables; conts = conts_committed k n o.kind o.vars }

-- a failure of a later part moves its program on, or uses one of its tries
abbrev pub kept_branched : Kept → ℕ → OpenUnit → Kept
kept_branched k n o = record k { decisions = n; conts = conts_branched k o.kind }

abbrev pub kept_ended : Kept → End → Option OpenUnit → Kept
kept_ended k (Committed n) (Some o) = kept_committed k n o
kept_ended k (Branched n c) (Some o) = kept_branched k n o
kept_ended k end o = k

abbrev pub units_after : Event → UnitState → UnitState
units_after (Began u kind) s = record s {
  units = s.units ++ begun s u kind ∷ [];
  unit_count = s.unit_count + 1;
  base_count = if is_some (program_begun kind) then s.base_count + 1 else s.base_count;
}
units_after (Did u st answer) s = record s { units = change_unit u (doing_one s.kept st) s.units }
units_after (Waits u owners) s = record s { units = change_unit u (waiting_by s.line) s.units }
units_after (Ended u end) s = record s { kept = kept_ended s.kept end (unit_named u s.units); units = without_unit u s.units }
units_after (Defined n text) s = record s { kept = record s.kept { decisions = n; definitions = s.kept.definitions ++ defined_by s.line } }
units_after (Down why) s = record s { phase = Fallen; to_go = []; owes = false }
units_after (Opened boot n) s = record s { kept = record s.kept { boot = boot }; phase = Opening; unit_count = 0; base_count = 0 }
units_after Ready s = record s { phase = Serving }
units_after (Early bs) s = record s { phase = Serving; named = bs }
units_after (Refused r) s = record s { owes = false }
units_after e s = s

-- `go all` goes to each program that goes on, in order of names
abbrev pub to_go_by : Asked → Kept → List Id
to_go_by (Tree GoAll) k = in_order (map (λ (c : Cont). c.base) k.conts)
to_go_by asked k = []

abbrev pub units_asked : Asked → UnitState → UnitState
units_asked asked s = record s { line = line_asked asked; to_go = to_go_by asked s.kept; owes = does_something asked }

abbrev pub units_turned : Id → UnitState → UnitState
units_turned b s = record s { to_go = ids_after b s.to_go; owes = s.owes && is_some (next_to_go_in s) }

-- at a start
abbrev pub units_at : Kept → Bool → UnitState
units_at k early = record { kept = k; phase = Fallen; line = Nothing; to_go = []; early = early; named = []; owes = false; units = []; unit_count = 0; base_count = 0 }

-- the state of a trace, event by event
abbrev pub units_of : Trace → UnitState
units_of (from k) = units_at k.kept k.early
units_of (trace asks asked) = units_asked asked (units_of trace)
units_of (trace turns b) = units_turned b (units_of trace)
units_of (trace says e) = units_after e (units_of trace)
