-- The refusal of a line, by the state, and by what is known beside it.
use Rattle.law_states.specs.OpenUnits.{OpenUnit, UnitState, unit_of_program, unit_of_session}
use Rattle.salt_ast.specs.ProgramJudgement.{Known, line_fault}
use Rattle.salt_ast.specs.declared.lines.Act.{Act}
use Rattle.salt_ast.specs.declared.lines.Act.TheVariants.{Begin, Call, Commit, Do, Rollback, Step}
use Rattle.salt_ast.specs.declared.lines.Line.{Line}
use Rattle.salt_ast.specs.declared.lines.Line.TheVariants.{Crash, Go, Net, Session}
use Rattle.salt_model.specs.Kept.{kept_program, programs_of, schema_of}
use Rattle.salt_model.specs.Refusals.{defines, has_block, is_base_program, refusal_by}
use Rattle.salt_model.specs.Trace.{Asked, Rejected, Tree}
use Rattle.salt_model.specs.Words.{is_empty}
use Rattle.salt_model.specs.declared.events.Refusal.{Refusal}
use Rattle.salt_values.specs.declared.cont.Cont.{Cont}
use Rattle.std.specs.Bool.{then_some}
use Rattle.std.specs.Option.{option_or}
use Rattle.std.specs.Prelude.{Bool, None, Option, Some, false, map, not, option_map, true, ℕ, ◌&&◌, ◌||◌}
use Rattle.salt_model.specs.declared.events.Refusal.TheVariants as refused

-- how many programs are under way, whether one holds locks, whether one that the last early opening names does, whether the disks can
-- be stopped, and whether commits go over messages
pub record UnderWay : Type 0 where
  pub count : ℕ
  pub holds : Bool
  pub covers : Bool
  pub can_stop : Bool
  pub over_net : Bool

abbrev pub known_in : UnitState → UnderWay → Known
known_in s w = record {
  schema = schema_of s.kept;
  catalogue = programs_of s.kept;
  unfinished = map (λ (c : Cont). c.base) s.kept.conts;
  unreleased = w.count;
}

-- whether an act does not fit how its session's unit stands
abbrev pub wrong_for : Option OpenUnit → Act → Bool
wrong_for (Some o) Begin = true
wrong_for (Some o) (Call p args) = true
wrong_for (Some o) (Do st) = o.waiting || has_block o.kind
wrong_for (Some o) Step = o.waiting || not (has_block o.kind)
wrong_for (Some o) Commit = o.waiting || has_block o.kind
wrong_for (Some o) Rollback = false
wrong_for None Step = true
wrong_for None Commit = true
wrong_for None Rollback = true
wrong_for None act = false

-- whether there is a unit, and it waits
abbrev pub waits : Option OpenUnit → Bool
waits None = false
waits (Some o) = o.waiting

abbrev pub held_back_in : UnitState → UnderWay → Act → Bool
held_back_in s w (Call n args) = w.covers && is_base_program (kept_program n s.kept)
held_back_in s w act = false

abbrev pub wrong_in : UnitState → UnderWay → Line → Bool
wrong_in s w (Session t act) = wrong_for (unit_of_session t s) act || held_back_in s w act
wrong_in s w (Go b) = waits (unit_of_program b s)
wrong_in s w (Crash pairs) = not w.can_stop
wrong_in s w (Net pairs) = not w.over_net
wrong_in s w line = false

-- whether a unit is open or a program holds locks: then nothing is defined
abbrev pub busy_in : UnitState → UnderWay → Bool
busy_in s w = not (is_empty s.units) || w.holds

abbrev pub refused_in : UnitState → UnderWay → Line → Option Refusal
refused_in s w line =
    option_or (option_map refusal_by (line_fault (known_in s w) line))
    (option_or (then_some (wrong_in s w line) refused.State) (then_some (defines line && busy_in s w) refused.Busy))

abbrev pub refusal_in : UnitState → UnderWay → Asked → Option Refusal
refusal_in s w (Tree line) = refused_in s w line
refusal_in s w (Rejected r) = Some r
