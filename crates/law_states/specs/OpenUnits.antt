-- Open units, and what is kept beside them: the half of an engine's state that is of units and tables.
use Rattle.law_states.specs.Overlays.{Edit}
use Rattle.salt_ast.specs.declared.lines.Line.{Line}
use Rattle.salt_ast.specs.declared.trees.Statement.{Statement}
use Rattle.salt_model.specs.Kept.{Kept, block_of_kind, cont_of}
use Rattle.salt_model.specs.Phases.{Phase}
use Rattle.salt_model.specs.Units.{program_of_kind, session_of_kind}
use Rattle.salt_model.specs.Waiting.{statement_of_line}
use Rattle.salt_model.specs.declared.events.UnitKind.{UnitKind}
use Rattle.salt_model.specs.declared.events.UnitKind.TheVariants.{Acid}
use Rattle.salt_model.specs.declared.vars.Binding.{Binding}
use Rattle.salt_values.specs.Id.{is_same_id}
use Rattle.salt_values.specs.declared.id.Id.{Id}
use Rattle.std.specs.List.{filter, find}
use Rattle.std.specs.Option.{option_or}
use Rattle.std.specs.Prelude.{Bool, List, None, Option, Some, false, if◌then◌else◌, is_some, map, not, slice_get, true, ℕ, ◌&&◌, ◌+◌, ◌==◌}

-- a unit that runs or waits
pub record OpenUnit : Type 0 where
  pub unit : Id
  pub kind : UnitKind
  -- whether it began with a line that is one statement
  pub single : Bool
  pub waiting : Bool
  -- while it waits, the statement of the line in which it began to
  pub asks : Option Statement
  -- how many statements of its block are done; a unit without a block counts none
  pub done : ℕ
  pub vars : List Binding
  pub changes : List Edit

-- the state of units and tables
pub record UnitState : Type 0 where
  -- tables, definitions, continuations, the boot and the last decision
  pub kept : Kept
  pub phase : Phase
  -- the line in whose segment the trace ends
  pub line : Line
  -- the programs to which `go all` has not yet turned
  pub to_go : List Id
  -- whether openings may be early; the programs that the last early one names; and whether a turn of theirs is to follow the line
  pub early : Bool
  pub named : List Id
  pub owes : Bool
  -- the open units, in order of names
  pub units : List OpenUnit
  -- units and programs that have begun in this boot
  pub unit_count : ℕ
  pub base_count : ℕ

-- how many of so many statements done count
abbrev pub counted : UnitKind → ℕ → ℕ
counted (Acid s) n = 0
counted kind n = n

-- the count with one more
abbrev pub count_on : UnitKind → ℕ → ℕ
count_on (Acid s) n = n
count_on kind n = n + 1

abbrev pub names_in : List OpenUnit → List Id
names_in os = map (λ (o : OpenUnit). o.unit) os

abbrev pub unit_named : Id → List OpenUnit → Option OpenUnit
unit_named u os = find (λ (o : OpenUnit). is_same_id o.unit u) os

abbrev pub without_unit : Id → List OpenUnit → List OpenUnit
without_unit u os = filter (λ (o : OpenUnit). not (is_same_id o.unit u)) os

abbrev pub change_unit : Id → (OpenUnit → OpenUnit) → List OpenUnit → List OpenUnit
change_unit u f os = map (λ (o : OpenUnit). if is_same_id o.unit u then f o else o) os

abbrev pub belongs_to_session : ℕ → OpenUnit → Bool
belongs_to_session s o = elim (session_of_kind o.kind) [ None ↦ false | Some t ↦ s == t ]

abbrev pub belongs_to_program : Id → OpenUnit → Bool
belongs_to_program b o = elim (program_of_kind o.kind) [ None ↦ false | Some c ↦ is_same_id b c ]

-- the open unit of a session, and of a program
abbrev pub unit_of_session : ℕ → UnitState → Option OpenUnit
unit_of_session s st = find (belongs_to_session s) st.units

abbrev pub unit_of_program : Id → UnitState → Option OpenUnit
unit_of_program b st = find (belongs_to_program b) st.units

-- one that has finished, or waits, when its turn comes is left out
abbrev pub is_not_waiting : Option OpenUnit → Bool
is_not_waiting None = true
is_not_waiting (Some o) = not o.waiting

abbrev pub can_go_in : UnitState → Id → Bool
can_go_in s b = is_some (cont_of b s.kept) && is_not_waiting (unit_of_program b s)

-- the program to which `go all` turns next; then, where a turn is owed, the least of the named ones that can go
abbrev pub next_to_go_in : UnitState → Option Id
next_to_go_in s = find (can_go_in s) s.to_go

abbrev pub turn_owed_in : UnitState → Option Id
turn_owed_in s = if s.owes then find (can_go_in s) s.named else None

abbrev pub next_turn_in : UnitState → Option Id
next_turn_in s = option_or (next_to_go_in s) (turn_owed_in s)

-- what a unit asks for: the next statement of its block; without one, that of the line, or of the one in which it began to wait
abbrev pub asking : Line → OpenUnit → Option (List Statement) → Option Statement
asking line o (Some block) = slice_get block o.done
asking line o None = if o.waiting then o.asks else statement_of_line line

-- the statement that an open unit asks for
abbrev pub asks_next : UnitState → OpenUnit → Option Statement
asks_next st o = asking st.line o (block_of_kind st.kept o.kind)
