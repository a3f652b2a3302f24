-- The refusal of a line: the first that applies, by the trace before it.
use Rattle.salt_ast.specs.Judgement.{exists, mistyped, unknown}
use Rattle.salt_ast.specs.ProgramJudgement.{Known, LineFault, branch, faulty, is_base, kept as of_kept, line_fault}
use Rattle.salt_ast.specs.declared.lines.Act.{Act}
use Rattle.salt_ast.specs.declared.lines.Act.TheVariants.{Begin, Call, Commit, Do, Rollback, Step}
use Rattle.salt_ast.specs.declared.lines.Line.{Line}
use Rattle.salt_ast.specs.declared.lines.Line.TheVariants.{Crash, Go, Net, Program, Session, Table}
use Rattle.salt_ast.specs.declared.programs.ProgramDef.{ProgramDef}
use Rattle.salt_model.specs.After.{kept}
use Rattle.salt_model.specs.Kept.{kept_program, programs_of, schema_of}
use Rattle.salt_model.specs.Locks.{is_holding}
use Rattle.salt_model.specs.Programs.{accepted_in, named_early, under_way}
use Rattle.salt_model.specs.Trace.{Asked, Rejected, Trace, Tree, start_of}
use Rattle.salt_model.specs.Units.{is_waiting, kind_of, open_units, program_unit, session_unit}
use Rattle.salt_model.specs.Words.{is_empty}
use Rattle.salt_model.specs.declared.events.Refusal.{Refusal}
use Rattle.salt_model.specs.declared.events.UnitKind.{UnitKind}
use Rattle.salt_model.specs.declared.events.UnitKind.TheVariants.{Acid}
use Rattle.salt_values.specs.declared.id.Id.{Id}
use Rattle.std.specs.Bool.{then_some}
use Rattle.std.specs.List.{list_any}
use Rattle.std.specs.Option.{option_map_or, option_or}
use Rattle.std.specs.Prelude.{Bool, None, Option, Some, false, length, map, not, option_map, true, ◌&&◌, ◌||◌}
use Rattle.salt_model.specs.declared.events.Refusal.TheVariants as refused

-- By the tree, and what is known: limits of what is kept, names, types and branches.

abbrev pub known_at : Trace → Known
known_at trace = record {
  schema = schema_of (kept trace);
  catalogue = programs_of (kept trace);
  unfinished = map (λ c. c.base) (kept trace).conts;
  unreleased = length (under_way trace);
}

abbrev pub refusal_by : LineFault → Refusal
refusal_by (of_kept limit) = refused.Limit limit
refusal_by (faulty (unknown n)) = refused.Unknown n
refusal_by (faulty (exists n)) = refused.Exists n
refusal_by (faulty mistyped) = refused.Mistyped
refusal_by (branch part) = refused.Branch part

abbrev pub judged : Trace → Line → Option Refusal
judged trace line = option_map refusal_by (line_fault (known_at trace) line)

-- By the state of sessions, programs and disks.

abbrev pub has_block : UnitKind → Bool
has_block (Acid s) = false
has_block kind = true

-- a unit that came from `call`
abbrev pub is_called : Trace → Id → Bool
is_called trace u = elim (kind_of u trace) [ None ↦ false | Some kind ↦ has_block kind ]

-- the acts that the state of a session's unit refuses
abbrev pub state_wrong : Trace → Option Id → Act → Bool
state_wrong trace (Some u) Begin = true
state_wrong trace (Some u) (Call p args) = true
state_wrong trace (Some u) (Do st) = is_waiting trace u || is_called trace u
state_wrong trace (Some u) Step = is_waiting trace u || not (is_called trace u)
state_wrong trace (Some u) Commit = is_waiting trace u || is_called trace u
state_wrong trace (Some u) Rollback = false
state_wrong trace None Step = true
state_wrong trace None Commit = true
state_wrong trace None Rollback = true
state_wrong trace None act = false

-- a program that the last early opening names is not released
abbrev pub is_covering : Trace → Bool
is_covering trace = list_any (is_holding trace) (named_early trace)

abbrev pub is_base_program : Option ProgramDef → Bool
is_base_program None = false
is_base_program (Some p) = is_base p

-- until then no BASE program is called
abbrev pub is_held_back : Trace → Act → Bool
is_held_back trace (Call n args) = is_covering trace && is_base_program (kept_program n (kept trace))
is_held_back trace act = false

abbrev pub is_state_wrong : Trace → Line → Bool
is_state_wrong trace (Session s act) = state_wrong trace (session_unit s trace) act || is_held_back trace act
is_state_wrong trace (Go b) = option_map_or (is_waiting trace) (program_unit b trace) false
is_state_wrong trace (Crash pairs) = not (start_of trace).can_stop
is_state_wrong trace (Net pairs) = not (start_of trace).over_net
is_state_wrong trace line = false

-- a unit is open, or a program is not released
abbrev pub is_busy : Trace → Bool
is_busy trace = not (is_empty (open_units trace)) || list_any (is_holding trace) (accepted_in trace)

abbrev pub defines : Line → Bool
defines (Table d) = true
defines (Program p) = true
defines line = false

abbrev pub refused_line : Trace → Line → Option Refusal
refused_line trace line =
    option_or (judged trace line) (option_or (then_some (is_state_wrong trace line) refused.State) (then_some (defines line && is_busy trace) refused.Busy))

-- the refusals of a line's text come before these
abbrev pub refusal : Trace → Asked → Option Refusal
refusal trace (Tree line) = refused_line trace line
refusal trace (Rejected r) = Some r
