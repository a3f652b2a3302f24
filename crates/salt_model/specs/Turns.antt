-- What a line, a turn and settling bring next, read off the trace so far.
use Rattle.salt_ast.specs.ProgramTexts.{program_text}
use Rattle.salt_ast.specs.Texts.{table_text}
use Rattle.salt_ast.specs.declared.lines.Act.{Act}
use Rattle.salt_ast.specs.declared.lines.Act.TheVariants.{Begin, Call, Commit, Do, Rollback, Step}
use Rattle.salt_ast.specs.declared.lines.Line.{Line}
use Rattle.salt_ast.specs.declared.lines.Line.TheVariants.{Crash, Go, GoAll, Net, Nothing, Program, Session, ShowBases, ShowLocks, Table}
use Rattle.salt_ast.specs.declared.programs.Body.{Body}
use Rattle.salt_ast.specs.declared.programs.Body.TheVariants.{Acid, Base}
use Rattle.salt_ast.specs.declared.trees.Statement.{Statement}
use Rattle.salt_model.specs.After.{answer_now, kept}
use Rattle.salt_model.specs.Kept.{cont_of, kept_program}
use Rattle.salt_model.specs.Locks.{clashing}
use Rattle.salt_model.specs.Programs.{named_early}
use Rattle.salt_model.specs.Reads.{to_release}
use Rattle.salt_model.specs.Shown.{base_items, lock_items}
use Rattle.salt_model.specs.Trace.{Asked, Rejected, Trace, Tree, from, line_of, ◌asks◌, ◌says◌, ◌turns◌}
use Rattle.salt_model.specs.Units.{base_count, done_of, is_waiting, kind_of, line_begun, program_unit, session_unit, unit_count}
use Rattle.salt_model.specs.Waiting.{asked_by, block_of, next_unblocked, victim}
use Rattle.salt_model.specs.declared.events.Answer.{Answer}
use Rattle.salt_model.specs.declared.events.Answer.TheVariants.{Failed}
use Rattle.salt_model.specs.declared.events.Cause.{Cause}
use Rattle.salt_model.specs.declared.events.End.{End}
use Rattle.salt_model.specs.declared.events.End.TheVariants.{Branched, Committed, Failed, RolledBack, Victim}
use Rattle.salt_model.specs.declared.events.Event.{Event}
use Rattle.salt_model.specs.declared.events.Event.TheVariants.{Accepted, Armed, Began, Defined, Did, Down, Ended, Finished, Refused, Released, Shown, Waits}
use Rattle.salt_model.specs.declared.events.Owner.{Owner}
use Rattle.salt_model.specs.declared.events.UnitKind.{UnitKind}
use Rattle.salt_model.specs.declared.events.UnitKind.TheVariants.{Acid, Call, First, Later}
use Rattle.salt_values.specs.Id.{in_order, is_same_id}
use Rattle.salt_values.specs.declared.id.Id.{Id}
use Rattle.salt_values.specs.declared.value.Value.{Value}
use Rattle.std.specs.Bool.{then_some}
use Rattle.std.specs.List.{find}
use Rattle.std.specs.Option.{option_or}
use Rattle.std.specs.Prelude.{Bool, List, None, Option, Some, [], false, if◌then◌else◌, is_none, is_some, length, map, not, option_and_then, option_map, true, ℕ, ◌&&◌, ◌+◌, ◌==◌, ◌∷◌}

-- the names that come next
abbrev pub fresh_unit : Trace → Id
fresh_unit trace = record { boot = (kept trace).boot; seq = unit_count trace + 1 }

abbrev pub fresh_base : Trace → Id
fresh_base trace = record { boot = (kept trace).boot; seq = base_count trace + 1 }

abbrev pub next_number : Trace → ℕ
next_number trace = (kept trace).decisions + 1

abbrev pub commits : Trace → Id → Event
commits trace u = Ended u (Committed (next_number trace))

-- a unit does a statement
abbrev pub does : Trace → Id → Statement → Event
does trace u st = Did u st (answer_now u trace st)

-- a statement is done, or waits for all owners that clash
abbrev pub asks_for : Trace → Id → Statement → List Owner → Event
asks_for trace u st [] = does trace u st
asks_for trace u st (owner ∷ owners) = Waits u (owner ∷ owners)

-- a turn of a unit: it asks for its next statement
abbrev pub turn : Trace → Id → Option Event
turn trace u = option_map (λ st. asks_for trace u st (clashing trace u st)) (asked_by u trace)

-- a unit waits no longer and does its statement
abbrev pub does_next : Trace → Id → Option Event
does_next trace u = option_map (does trace u) (asked_by u trace)

-- 1. The first event of a line.

abbrev pub kind_called : Trace → ℕ → List ℕ → List Value → Body → UnitKind
kind_called trace s n args (Acid block) = Call s n args
kind_called trace s n args (Base parts) = First s (fresh_base trace) n args

abbrev pub begins : Trace → UnitKind → Event
begins trace kind = Began (fresh_unit trace) kind

abbrev pub act_event : Trace → ℕ → Act → Option Id → Option Event
act_event trace s Begin u = Some (begins trace (Acid s))
act_event trace s (Do st) None = Some (begins trace (Acid s))
act_event trace s (Do st) (Some u) = turn trace u
act_event trace s (Call n args) u = option_map (λ p. begins trace (kind_called trace s n args p.body)) (kept_program n (kept trace))
act_event trace s Step u = option_and_then (turn trace) u
act_event trace s Commit u = option_map (commits trace) u
act_event trace s Rollback u = option_map (λ v. Ended v RolledBack) u

-- the next part of a program begins, or its open unit takes a turn
abbrev pub goes_on : Trace → Id → Option Id → Option Event
goes_on trace b (Some u) = turn trace u
goes_on trace b None = option_map (λ c. begins trace (Later b c.next)) (cont_of b (kept trace))

abbrev pub go : Trace → Id → Option Event
go trace b = goes_on trace b (program_unit b trace)

abbrev pub line_event : Trace → Line → Option Event
line_event trace (Table d) = Some (Defined (next_number trace) (table_text d))
line_event trace (Program p) = Some (Defined (next_number trace) (program_text p))
line_event trace (Session s act) = act_event trace s act (session_unit s trace)
line_event trace (Go b) = go trace b
line_event trace ShowLocks = Some (Shown (lock_items trace))
line_event trace ShowBases = Some (Shown (base_items trace))
line_event trace (Crash pairs) = Some (Armed pairs)
line_event trace (Net pairs) = Some (Armed pairs)
line_event trace line = None

-- 2. What follows an event in its turn, given the trace with it.

-- a unit's first turn comes with its Began, unless `begin` opened it
abbrev pub after_began : Trace → Id → Line → UnitKind → Option Event
after_began trace u (Session s Begin) (Acid t) = None
after_began trace u line kind = turn trace u

abbrev pub fails : Trace → Id → Cause → Option UnitKind → Event
fails trace u c (Some (Later b part)) = Ended u (Branched (next_number trace) c)
fails trace u c kind = Ended u (Failed c)

abbrev pub is_statement_line : Line → Bool
is_statement_line (Session s (Do st)) = true
is_statement_line line = false

-- a unit ends with this statement: after the last of its block, or as a session's single statement
abbrev pub is_at_end : Trace → Id → Option (List Statement) → Bool
is_at_end trace u (Some block) = length (done_of u trace) == length block
is_at_end trace u None = is_statement_line (line_begun u trace)

abbrev pub after_did : Trace → Id → Answer → Option Event
after_did trace u (Failed c) = Some (fails trace u c (kind_of u trace))
after_did trace u answer = then_some (is_at_end trace u (block_of u trace)) (commits trace u)

-- a program whose continuation has ended is finished
abbrev pub finishes : Trace → Id → Option Event
finishes trace b = then_some (is_none (cont_of b (kept trace))) (Finished b)

abbrev pub after_end : Trace → End → Option UnitKind → Option Event
after_end trace (Committed n) (Some (First s b name args)) = Some (Accepted b)
after_end trace (Committed n) (Some (Later b part)) = finishes trace b
after_end trace (Branched n c) (Some (Later b part)) = finishes trace b
after_end trace end kind = None

abbrev pub releases : List Id → Option Event
releases [] = None
releases (b ∷ bs) = Some (Released (b ∷ bs))

abbrev pub follow : Trace → Event → Option Event
follow trace (Began u kind) = after_began trace u (line_of trace) kind
follow trace (Did u st answer) = after_did trace u answer
follow trace (Ended u end) = after_end trace end (kind_of u trace)
follow trace (Accepted b) = finishes trace b
follow trace (Finished b) = releases (to_release trace)
follow trace e = None

-- 3. Settling: a victim ends; else the longest waiting unit that can goes on.

abbrev pub settle_by : Trace → Option Id → Option Id → Option Event
settle_by trace (Some u) served = Some (Ended u Victim)
settle_by trace None (Some u) = does_next trace u
settle_by trace None None = None

abbrev pub settle : Trace → Option Event
settle trace = settle_by trace (victim trace) (next_unblocked trace)

-- the programs to which `go all` has not yet turned
abbrev pub ids_after : Id → List Id → List Id
ids_after b [] = []
ids_after b (c ∷ cs) = if is_same_id b c then cs else ids_after b cs

abbrev pub still_to_go : Trace → List Id
still_to_go (trace asks Tree GoAll) = in_order (map (λ c. c.base) (kept trace).conts)
still_to_go (trace turns b) = ids_after b (still_to_go trace)
still_to_go (trace says Down why) = []
still_to_go (trace says e) = still_to_go trace
still_to_go trace = []

-- one that has finished, or waits, when its turn comes is left out
abbrev pub can_go : Trace → Id → Bool
can_go trace b = is_some (cont_of b (kept trace)) && (elim (program_unit b trace) [ None ↦ true | Some u ↦ not (is_waiting trace u) ])

abbrev pub next_to_go : Trace → Option Id
next_to_go trace = find (can_go trace) (still_to_go trace)

-- a line does something, if it is not refused
abbrev pub does_something : Asked → Bool
does_something (Tree Nothing) = false
does_something (Tree line) = true
does_something (Rejected r) = false

-- the line in whose segment the trace ends does something, was not refused nor cut short, and the turn behind it has not come
abbrev pub owes_turn : Trace → Bool
owes_turn (from k) = false
owes_turn (trace asks asked) = does_something asked
owes_turn (trace turns b) = owes_turn trace && is_some (next_to_go trace)
owes_turn (trace says Refused r) = false
owes_turn (trace says Down why) = false
owes_turn (trace says e) = owes_turn trace

-- behind such a line the least program that the last early opening names, of those that can go, has a turn
abbrev pub turn_owed : Trace → Option Id
turn_owed trace = if owes_turn trace then find (can_go trace) (named_early trace) else None

abbrev pub next_turn : Trace → Option Id
next_turn trace = option_or (next_to_go trace) (turn_owed trace)
