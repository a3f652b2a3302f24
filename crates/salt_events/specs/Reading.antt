-- The event whose line these bytes are.
use Rattle.law_definitions.specs.Texts.{definition_in, statement_in}
use Rattle.salt_events.specs.Fronts.{Front, behind, id_at, number_at}
use Rattle.salt_events.specs.Names.{name_at}
use Rattle.salt_events.specs.Values.{row_at, value_at}
use Rattle.salt_events.specs.Lists.{each_on, list_in, owner_at}
use Rattle.salt_model.specs.declared.events.Answer.TheVariants as answer
use Rattle.salt_model.specs.declared.events.Answer.{Answer}
use Rattle.salt_model.specs.declared.events.Cause.TheVariants as cause
use Rattle.salt_model.specs.declared.events.Cause.{Cause}
use Rattle.salt_model.specs.declared.events.End.TheVariants as end
use Rattle.salt_model.specs.declared.events.End.{End}
use Rattle.salt_model.specs.declared.events.Event.TheVariants as event
use Rattle.salt_model.specs.declared.events.Event.{Event}
use Rattle.salt_model.specs.declared.events.UnitKind.TheVariants as kind
use Rattle.salt_model.specs.declared.events.UnitKind.{UnitKind}
use Rattle.salt_model.specs.declared.events.Why.TheVariants as why
use Rattle.law_texts.specs.Arrow.{behind_arrow}
use Rattle.salt_ast.specs.TokenSpelling.{same_bytes}
use Rattle.salt_values.specs.declared.id.Id.{Id}
use Rattle.salt_values.specs.declared.value.Value.{Value}
use Rattle.std.specs.Bool.{then_some}
use Rattle.std.specs.Prelude.{List, None, Option, Some, [], codes, drop, if◌then◌else◌, is_some, length, nat_lt, option_and_then, option_map, take, ℕ, ◌+◌, ◌-◌, ◌^◌, ◌∷◌}

-- what is read where nothing is left
abbrev pub if_empty : {A : Type 0} → A → List ℕ → Option A
if_empty x [] = Some x
if_empty x (b ∷ bytes) = None

-- what is read of the bytes behind a word, or else, where they do not begin with it
abbrev pub either : {A : Type 0} → Option (List ℕ) → (List ℕ → Option A) → Option A → Option A
either None f other = other
either (Some rest) f other = f rest

abbrev pub if_below : ℕ → ℕ → Option ℕ
if_below most n = then_some (nat_lt n most) n

-- the bytes are a number
abbrev pub number_in : List ℕ → Option ℕ
number_in bytes = option_and_then (λ r. if_empty r.0 r.1) (number_at bytes)

abbrev pub cause_in : List ℕ → Option Cause
cause_in bytes =
    if same_bytes bytes (codes "duplicate") then Some cause.Duplicate else
    if same_bytes bytes (codes "check") then Some cause.Check else
    if same_bytes bytes (codes "missing") then Some cause.Missing else
    if same_bytes bytes (codes "ensure") then Some cause.Ensure else
    if same_bytes bytes (codes "overflow") then Some cause.Overflow else
    if same_bytes bytes (codes "toolong") then Some cause.TooLong else None

abbrev pub branched_in : List ℕ → Option End
branched_in bytes = option_and_then (λ r. option_map (λ c. end.Branched r.0 c) (option_and_then cause_in (behind (codes " ") r.1))) (number_at bytes)

abbrev pub plain_end_in : List ℕ → Option End
plain_end_in bytes =
    if same_bytes bytes (codes " rolled back") then Some end.RolledBack else
    if same_bytes bytes (codes " victim") then Some end.Victim else
    if same_bytes bytes (codes " cut") then Some end.Cut else None

abbrev pub end_in : List ℕ → Option End
end_in bytes =
    either (behind (codes " committed ") bytes) (λ r. option_map end.Committed (number_in r))
    (either (behind (codes " failed ") bytes) (λ r. option_map end.Failed (cause_in r))
    (either (behind (codes " branched ") bytes) branched_in (plain_end_in bytes)))

-- a program's name and arguments
abbrev pub call_in : List ℕ → Option (List ℕ × List Value)
call_in bytes = option_and_then (λ n. option_and_then (λ r. if_empty (n.0, r.0) r.1) (row_at n.1)) (name_at bytes)

abbrev pub first_in : ℕ → List ℕ → Option UnitKind
first_in s bytes = option_and_then (λ b. option_map (λ c. kind.First s b.0 c.0 c.1) (option_and_then call_in (behind (codes " part 1 of ") b.1))) (id_at bytes)

-- behind the session
abbrev pub of_session : ℕ → List ℕ → Option UnitKind
of_session s [] = Some (kind.Acid s)
of_session s (b ∷ bytes) =
    either (behind (codes " call ") (b ∷ bytes)) (λ r. option_map (λ c. kind.Call s c.0 c.1) (call_in r))
    (either (behind (codes " b") (b ∷ bytes)) (first_in s) None)

abbrev pub session_at : List ℕ → Front ℕ
session_at bytes = option_and_then (λ r. option_map (λ s. (s, r.1)) (if_below (2 ^ 8) r.0)) (number_at bytes)

abbrev pub session_kind_in : List ℕ → Option UnitKind
session_kind_in bytes = option_and_then (λ r. of_session r.0 r.1) (session_at bytes)

abbrev pub part_in : List ℕ → Option ℕ
part_in bytes = option_and_then (if_below (2 ^ 32)) (number_in bytes)

abbrev pub later_in : List ℕ → Option UnitKind
later_in bytes = option_and_then (λ r. option_map (λ part. kind.Later r.0 part) (option_and_then part_in (behind (codes " part ") r.1))) (id_at bytes)

-- behind `began`
abbrev pub kind_in : List ℕ → Option UnitKind
kind_in bytes = either (behind (codes "@") bytes) session_kind_in (either (behind (codes "b") bytes) later_in None)

-- ANSWERS

abbrev pub value_in : List ℕ → Option Value
value_in bytes = option_and_then (λ r. if_empty r.0 r.1) (value_at bytes)

abbrev pub cell_in : List ℕ → Option (Option Value)
cell_in bytes = if same_bytes bytes (codes "none") then Some None else option_map Some (value_in bytes)

abbrev pub rows_in : List ℕ → Option (List (List Value))
rows_in bytes = each_on row_at (length bytes) [] bytes

abbrev pub answer_in : List ℕ → Option Answer
answer_in bytes =
    either (behind (codes "count ") bytes) (λ r. option_map answer.Count (number_in r))
    (either (behind (codes "rows") bytes) (λ r. option_map answer.Rows (rows_in r))
    (either (behind (codes "value ") bytes) (λ r. option_map answer.Cell (cell_in r))
    (either (behind (codes "stored ") bytes) (λ r. option_map answer.Stored (value_in r))
    (either (behind (codes "failed ") bytes) (λ r. option_map answer.Failed (cause_in r))
    (if same_bytes bytes (codes "true") then Some answer.Held else None)))))

-- STATEMENTS

-- what stands before an arrow and these bytes
abbrev pub cut_at : ℕ → List ℕ → List ℕ → Option (List ℕ)
cut_at n bytes rest = option_and_then (λ r. then_some (same_bytes r rest) (take n bytes)) (behind (codes " ->") (drop n bytes))

abbrev pub cut_before : List ℕ → List ℕ → Option (List ℕ)
cut_before bytes rest = cut_at (length bytes - (length rest + 3)) bytes rest

abbrev pub did_behind : Id → List ℕ → List ℕ → Option Event
did_behind u bytes rest =
    option_and_then (λ st. option_map (λ a. event.Did u st a) (option_and_then answer_in (behind (codes " ") rest)))
    (option_and_then statement_in (cut_before bytes rest))

-- behind `did`
abbrev pub did_in : Id → List ℕ → Option Event
did_in u bytes = did_behind u bytes (behind_arrow bytes)

-- behind a unit's name
abbrev pub unit_line_in : Id → List ℕ → Option Event
unit_line_in u bytes =
    either (behind (codes " began ") bytes) (λ r. option_map (λ k. event.Began u k) (kind_in r))
    (either (behind (codes " did ") bytes) (did_in u)
    (either (behind (codes " waits") bytes) (λ r. option_map (λ os. event.Waits u os) (list_in owner_at r)) (option_map (λ e. event.Ended u e) (end_in bytes))))

-- behind a program's name
abbrev pub base_line_in : Id → List ℕ → Option Event
base_line_in b bytes =
    if same_bytes bytes (codes " accepted") then Some (event.Accepted b) else
    if same_bytes bytes (codes " finished") then Some (event.Finished b) else None

abbrev pub opened_in : List ℕ → Option Event
opened_in bytes = option_and_then (λ r. option_map (λ n. event.Opened r.0 n) (option_and_then number_in (behind (codes " ") r.1))) (number_at bytes)

abbrev pub definition_event : ℕ → List ℕ → Option Event
definition_event n text = then_some (is_some (definition_in text)) (event.Defined n text)

abbrev pub defined_in : List ℕ → Option Event
defined_in bytes = option_and_then (λ r. option_and_then (definition_event r.0) (behind (codes " ") r.1)) (number_at bytes)

abbrev pub plain_line_in : List ℕ → Option Event
plain_line_in bytes =
    if same_bytes bytes (codes "ready") then Some event.Ready else
    if same_bytes bytes (codes "down stopped") then Some (event.Down why.Stopped) else
    if same_bytes bytes (codes "down fault") then Some (event.Down why.Fault) else None
