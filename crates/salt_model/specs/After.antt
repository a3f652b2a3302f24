-- What is kept after a trace: the tables after the commits so far, in their order, and with them definitions, the decision number and continuations.
use Rattle.salt_ast.specs.declared.lines.Line.TheVariants.{Program, Table}
use Rattle.salt_ast.specs.declared.lines.Line.{Line}
use Rattle.salt_ast.specs.declared.trees.Statement.{Statement}
use Rattle.salt_model.specs.Kept.{Definition, Kept, OfProgram, OfTable, conts_branched, conts_committed, schema_of, vars_of_kind}
use Rattle.salt_model.specs.Trace.{Trace, line_of, over_events}
use Rattle.salt_model.specs.Units.{done_of, kind_of}
use Rattle.salt_model.specs.Statements.{UnitRun, outcome_of, serial}
use Rattle.salt_model.specs.Reaches.{reach}
use Rattle.salt_model.specs.Tables.{Tables}
use Rattle.salt_model.specs.declared.events.Answer.{Answer}
use Rattle.salt_model.specs.declared.events.End.TheVariants.{Branched, Committed}
use Rattle.salt_model.specs.declared.events.Event.TheVariants.{Began, Defined, Ended, Opened}
use Rattle.salt_model.specs.declared.events.Event.{Event}
use Rattle.salt_model.specs.declared.events.UnitKind.{UnitKind}
use Rattle.salt_model.specs.declared.locks.Reach.{Reach}
use Rattle.salt_model.specs.declared.vars.Binding.{Binding}
use Rattle.salt_values.specs.Id.{is_same_id}
use Rattle.salt_values.specs.declared.change.Change.{Change}
use Rattle.salt_values.specs.declared.cont.Cont.{Cont}
use Rattle.salt_values.specs.declared.id.Id.{Id}
use Rattle.std.specs.Prelude.{List, None, Option, Some, [], if◌then◌else◌, ℕ, ◌++◌, ◌∷◌}
use Rattle.std.specs.Option.{option_map_or}

abbrev pub defined_by : Line → List Definition
defined_by (Table d) = OfTable d ∷ []
defined_by (Program p) = OfProgram p ∷ []
defined_by line = []

abbrev pub conts_at : Kept → ℕ → Option UnitKind → List Binding → List Cont
conts_at k n o vars = option_map_or (λ kind. conts_committed k n kind vars) o k.conts

-- a unit that commits by decision n, with what its statements gave
abbrev pub committed : Kept → ℕ → Option UnitKind → UnitRun → Kept
committed k n kind run = record k { decisions = n; tables = run.tables; conts = conts_at k n kind run.vars }

abbrev pub branched : Kept → ℕ → Option UnitKind → Kept
branched k n None = k
branched k n (Some kind) = record k { decisions = n; conts = conts_branched k kind }

-- what is kept, and the variables with which each unit began
pub record Stage : Type 0 where
  pub kept : Kept
  pub vars : Id → List Binding

abbrev pub stage_run : Stage → Id → Trace → UnitRun
stage_run s u trace = serial (schema_of s.kept) s.kept.tables (s.vars u) (done_of u trace)

-- what an event makes of what is kept
abbrev pub keep : Trace → Event → Stage → Kept
keep trace (Ended u (Committed n)) s = committed s.kept n (kind_of u trace) (stage_run s u trace)
keep trace (Ended u (Branched n c)) s = branched s.kept n (kind_of u trace)
keep trace (Defined n text) s = record s.kept { decisions = n; definitions = s.kept.definitions ++ defined_by (line_of trace) }
keep trace (Opened boot n) s = record s.kept { boot = boot }
keep trace e s = s.kept

abbrev pub begun_with : Event → Stage → Id → List Binding
begun_with (Began v kind) s u = if is_same_id u v then vars_of_kind s.kept kind else s.vars u
begun_with e s u = s.vars u

abbrev pub stage : Trace → Stage
stage = over_events (λ k. record { kept = k.kept; vars = λ u. [] }) (λ trace e s. record { kept = keep trace e s; vars = begun_with e s })

abbrev pub kept : Trace → Kept
kept trace = (stage trace).kept

-- the variables with which a unit began
abbrev pub vars_of : Id → Trace → List Binding
vars_of u trace = (stage trace).vars u

-- After
abbrev pub tables_after : Trace → Tables
tables_after trace = (kept trace).tables

-- doing the statements that an open unit has done, on the committed tables
abbrev pub run_of : Id → Trace → UnitRun
run_of u trace = stage_run (stage trace) u trace

-- what a statement of the unit would reach, and do, here
abbrev pub reach_now : Id → Trace → Statement → Option Reach
reach_now u trace st = reach (schema_of (kept trace)) (run_of u trace).vars st

abbrev pub answer_now : Id → Trace → Statement → Answer
answer_now u trace st = let run = run_of u trace in (outcome_of (schema_of (kept trace)) run.tables run.vars st).answer

-- the changes that a statement of the unit makes here
abbrev pub changes_now : Id → Trace → Statement → List Change
changes_now u trace st = let run = run_of u trace in (outcome_of (schema_of (kept trace)) run.tables run.vars st).changes
