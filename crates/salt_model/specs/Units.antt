-- Units: who is open, runs or waits, for whom, and what it has done.
use Rattle.std.specs.Bool.{then_some}
use Rattle.std.specs.Option.{option_or}
use Rattle.salt_ast.specs.declared.lines.Line.TheVariants.{Nothing}
use Rattle.salt_ast.specs.declared.lines.Line.{Line}
use Rattle.salt_ast.specs.declared.trees.Statement.{Statement}
use Rattle.salt_model.specs.Words.{first_of_list}
use Rattle.salt_values.specs.Id.{without}
use Rattle.salt_model.specs.declared.events.Answer.{Answer}
use Rattle.salt_model.specs.declared.events.End.{End}
use Rattle.salt_model.specs.declared.events.Event.TheVariants.{Began, Did, Ended, Opened, Waits}
use Rattle.salt_model.specs.declared.events.Event.{Event}
use Rattle.salt_model.specs.declared.events.UnitKind.TheVariants.{Acid, Call, First, Later}
use Rattle.salt_model.specs.declared.events.UnitKind.{UnitKind}
use Rattle.salt_values.specs.Id.{is_same_id}
use Rattle.salt_values.specs.declared.id.Id.{Id}
use Rattle.std.specs.List.{filter}
use Rattle.std.specs.Prelude.{Bool, List, None, Option, Some, [], false, if◌then◌else◌, is_some, option_and_then, true, ℕ, ◌++◌, ◌+◌, ◌==◌, ◌∷◌}
use Rattle.salt_model.specs.Trace.{Trace, from, line_of, over_events, ◌asks◌, ◌says◌, ◌turns◌}

-- where a unit stands: it is open while it runs or waits
pub data Standing : Type 0 where
  Never : Standing
  Running : Standing
  Waiting : Standing
  Over : End → Standing

abbrev pub standing_after : Id → Event → Standing → Standing
standing_after u (Began v kind) s = if is_same_id u v then Running else s
standing_after u (Did v st answer) s = if is_same_id u v then Running else s
standing_after u (Waits v owners) s = if is_same_id u v then Waiting else s
standing_after u (Ended v end) s = if is_same_id u v then Over end else s
standing_after u e s = s

abbrev pub standing : Id → Trace → Standing
standing u = over_events (λ k. Never) (λ trace e s. standing_after u e s)

abbrev pub is_open_standing : Standing → Bool
is_open_standing Running = true
is_open_standing Waiting = true
is_open_standing s = false

abbrev pub is_waiting_standing : Standing → Bool
is_waiting_standing Waiting = true
is_waiting_standing s = false

abbrev pub is_open : Trace → Id → Bool
is_open trace u = is_open_standing (standing u trace)

abbrev pub is_waiting : Trace → Id → Bool
is_waiting trace u = is_waiting_standing (standing u trace)

abbrev pub kind_begun : Id → Event → Option UnitKind
kind_begun u (Began v kind) = then_some (is_same_id u v) kind
kind_begun u e = None

-- the kind of a unit, by its Began
abbrev pub kind_of : Id → Trace → Option UnitKind
kind_of u = over_events (λ k. None) (λ trace e kind. option_or (kind_begun u e) kind)

-- the units, in the order of their Began
abbrev pub units_begun : Trace → List Id
units_begun = over_events (λ k. []) (λ trace e us. elim e [ Began u kind ↦ us ++ u ∷ [] | _ ↦ us ])

abbrev pub open_units : Trace → List Id
open_units trace = filter (is_open trace) (units_begun trace)

-- the history: the ended units, in the order of their ends
abbrev pub history_of : Trace → List Id
history_of (from k) = []
history_of (trace asks asked) = history_of trace
history_of (trace turns b) = history_of trace
history_of (trace says Ended u end) = history_of trace ++ u ∷ []
history_of (trace says e) = history_of trace

-- the statements that a unit has done since its Began, in order
abbrev pub done_of : Id → Trace → List Statement
done_of u = over_events (λ k. []) (λ trace e done. elim e
    [ Began v kind ↦ (if is_same_id u v then [] else done) | Did v st answer ↦ (if is_same_id u v then done ++ st ∷ [] else done) | _ ↦ done ])

-- its printed answers
abbrev pub answers_of : Id → Trace → List Answer
answers_of u = over_events (λ k. []) (λ trace e given. elim e
    [ Began v kind ↦ (if is_same_id u v then [] else given) | Did v st answer ↦ (if is_same_id u v then given ++ answer ∷ [] else given) | _ ↦ given ])

abbrev pub program_of_kind : UnitKind → Option Id
program_of_kind (First s b n args) = Some b
program_of_kind (Later b part) = Some b
program_of_kind kind = None

-- the program of a subtransaction; an ACID unit has none
abbrev pub program_of : Id → Trace → Option Id
program_of u trace = option_and_then program_of_kind (kind_of u trace)

abbrev pub is_of_program : Id → Trace → Id → Bool
is_of_program b trace u = elim (program_of u trace) [ None ↦ false | Some c ↦ is_same_id b c ]

abbrev pub session_of_kind : UnitKind → Option ℕ
session_of_kind (Acid s) = Some s
session_of_kind (Call s n args) = Some s
session_of_kind (First s b n args) = Some s
session_of_kind (Later b part) = None

abbrev pub is_of_session : ℕ → Trace → Id → Bool
is_of_session s trace u = elim (option_and_then session_of_kind (kind_of u trace)) [ None ↦ false | Some t ↦ s == t ]

-- the open unit of a session, and of a program
abbrev pub session_unit : ℕ → Trace → Option Id
session_unit s trace = first_of_list (filter (is_of_session s trace) (open_units trace))

abbrev pub program_unit : Id → Trace → Option Id
program_unit b trace = first_of_list (filter (is_of_program b trace) (open_units trace))

-- the line in whose segment the unit's Began stands
abbrev pub line_begun : Id → Trace → Line
line_begun u = over_events (λ k. Nothing) (λ trace e line. elim e [ Began v kind ↦ (if is_same_id u v then line_of trace else line) | _ ↦ line ])

-- the line in whose segment its last Waits stands
abbrev pub line_waited : Id → Trace → Line
line_waited u = over_events (λ k. Nothing) (λ trace e line. elim e [ Waits v owners ↦ (if is_same_id u v then line_of trace else line) | _ ↦ line ])

-- the waiting units, the longest first
abbrev pub wait_list : Trace → List Id
wait_list = over_events (λ k. []) (λ trace e us. elim e
    [ Waits u owners ↦ without (u ∷ []) us ++ u ∷ [] | Did u st answer ↦ without (u ∷ []) us | Ended u end ↦ without (u ∷ []) us | _ ↦ us ])

-- units and programs are numbered from 1 in each boot
abbrev pub unit_count : Trace → ℕ
unit_count = over_events (λ k. 0) (λ trace e n. elim e [ Began u kind ↦ n + 1 | Opened boot number ↦ 0 | _ ↦ n ])

-- the program that a unit begins, by its kind
abbrev pub program_begun : UnitKind → Option Id
program_begun (First s b n args) = Some b
program_begun kind = None

abbrev pub base_count : Trace → ℕ
base_count = over_events (λ k. 0) (λ trace e n. elim e [ Began u kind ↦ (if is_some (program_begun kind) then n + 1 else n) | Opened boot number ↦ 0 | _ ↦ n ])
