-- A state is that of a trace: of its open units, and of what is kept after it.
use Rattle.law_states.specs.OpenUnits.{OpenUnit, UnitState, counted, names_in}
use Rattle.salt_ast.specs.declared.trees.Statement.{Statement}
use Rattle.salt_model.specs.After.{kept, run_of}
use Rattle.salt_model.specs.Phases.{phase}
use Rattle.salt_model.specs.Programs.{named_early}
use Rattle.salt_model.specs.Trace.{Trace, line_of, start_of}
use Rattle.salt_model.specs.Turns.{is_statement_line, owes_turn, still_to_go}
use Rattle.salt_model.specs.Units.{base_count, done_of, is_waiting, kind_of, line_begun, line_waited, open_units, unit_count}
use Rattle.salt_model.specs.Waiting.{statement_of_line}
use Rattle.salt_model.specs.Words.{Every}
use Rattle.salt_values.specs.declared.id.Id.{Id}
use Rattle.std.specs.Prelude.{None, Option, Some, if◌then◌else◌, length, ◌≡◌}

-- while a unit waits, the statement of the line in which it began to
abbrev pub waited_for : Id → Trace → Option Statement
waited_for u trace = if is_waiting trace u then statement_of_line (line_waited u trace) else None

-- an open unit is as the trace has it
pub record KeepsUnit (trace : Trace) (o : OpenUnit) : Type 0 where
  pub kind : kind_of o.unit trace ≡ Some o.kind
  pub single : is_statement_line (line_begun o.unit trace) ≡ o.single
  pub waiting : is_waiting trace o.unit ≡ o.waiting
  pub asks : waited_for o.unit trace ≡ o.asks
  pub done : counted o.kind (length (done_of o.unit trace)) ≡ o.done
  pub vars : (run_of o.unit trace).vars ≡ o.vars
  pub changes : (run_of o.unit trace).changes.list ≡ o.changes

-- and so are all of them, and what stands beside them
pub record KeepsUnits (s : UnitState) (trace : Trace) : Type 0 where
  pub kept : kept trace ≡ s.kept
  pub phase : phase trace ≡ s.phase
  pub line : line_of trace ≡ s.line
  pub to_go : still_to_go trace ≡ s.to_go
  pub early : (start_of trace).early ≡ s.early
  pub named : named_early trace ≡ s.named
  pub owes : owes_turn trace ≡ s.owes
  pub units : open_units trace ≡ names_in s.units
  pub each : Every (KeepsUnit trace) s.units
  pub unit_count : unit_count trace ≡ s.unit_count
  pub base_count : base_count trace ≡ s.base_count
