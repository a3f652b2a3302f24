-- Turns: which statement a unit asks for. Who waits for whom, and the victim.
use Rattle.std.specs.Option.{option_or}
use Rattle.salt_ast.specs.declared.lines.Act.TheVariants.{Do}
use Rattle.salt_ast.specs.declared.lines.Line.TheVariants.{Session}
use Rattle.salt_ast.specs.declared.lines.Line.{Line}
use Rattle.salt_ast.specs.declared.trees.Statement.{Statement}
use Rattle.salt_model.specs.After.{kept}
use Rattle.salt_model.specs.Kept.{block_of_kind}
use Rattle.salt_model.specs.Locks.{clashing}
use Rattle.salt_model.specs.Trace.{Trace, line_of}
use Rattle.salt_model.specs.Units.{Standing, Waiting, done_of, is_of_program, kind_of, line_waited, program_of, standing, wait_list}
use Rattle.salt_model.specs.Reads.{is_finished, sources}
use Rattle.salt_model.specs.Words.{greatest, is_empty, widened}
use Rattle.salt_values.specs.Id.{has_id}
use Rattle.salt_model.specs.declared.events.Owner.TheVariants.{Base, Unit}
use Rattle.salt_model.specs.declared.events.Owner.{Owner}
use Rattle.salt_values.specs.Id.{is_same_id}
use Rattle.salt_values.specs.declared.id.Id.{Id}
use Rattle.std.specs.List.{filter, find, flat_map, list_any}
use Rattle.std.specs.Prelude.{Bool, List, None, Option, Some, [], if◌then◌else◌, is_none, length, map, not, option_and_then, slice_get, ◌&&◌, ◌∷◌}

-- the statement of a session's line
abbrev pub statement_of_line : Line → Option Statement
statement_of_line (Session s (Do st)) = Some st
statement_of_line line = None

-- the line whose statement a session's unit asks for: that of its Waits, or this one
abbrev pub asking_line : Id → Trace → Standing → Line
asking_line u trace Waiting = line_waited u trace
asking_line u trace s = line_of trace

-- the statement after those done, of a block; without a block, that of the line
abbrev pub statement_in : Id → Trace → Option (List Statement) → Option Statement
statement_in u trace (Some block) = slice_get block (length (done_of u trace))
statement_in u trace None = statement_of_line (asking_line u trace (standing u trace))

abbrev pub block_of : Id → Trace → Option (List Statement)
block_of u trace = option_and_then (block_of_kind (kept trace)) (kind_of u trace)

-- the statement that an open unit asks for
abbrev pub asked_by : Id → Trace → Option Statement
asked_by u trace = statement_in u trace (block_of u trace)

abbrev pub clashing_now : Trace → Id → List Owner
clashing_now trace u = elim (asked_by u trace) [ None ↦ [] | Some st ↦ clashing trace u st ]

-- the waiting subtransactions of the unfinished programs among these
abbrev pub waiting_of : Trace → List Id → List Id
waiting_of trace bs = filter (λ u. list_any (λ b. not (is_finished trace b) && is_of_program b trace u) bs) (wait_list trace)

abbrev pub edges_to : Trace → Owner → List Id
edges_to trace (Unit v) = v ∷ []
edges_to trace (Base c) = waiting_of trace (sources trace c)

-- a waiting unit and the units that it waits for
pub record WaitUnit : Type 0 where
  pub unit : Id
  pub acid : Bool
  pub edges : List Id

abbrev pub is_acid : Trace → Id → Bool
is_acid trace u = is_none (program_of u trace)

abbrev pub wait_unit : Trace → Id → WaitUnit
wait_unit trace u = record { unit = u; acid = is_acid trace u; edges = flat_map (edges_to trace) (clashing_now trace u) }

-- the graph of the waiting units
abbrev pub wait_graph : Trace → List WaitUnit
wait_graph trace = map (wait_unit trace) (wait_list trace)

abbrev pub edges_in : List WaitUnit → Id → List Id
edges_in [] u = []
edges_in (w ∷ ws) u = if is_same_id u w.unit then w.edges else edges_in ws u

-- a unit lies on a cycle: its edges lead back to it; a way back needs no more steps than units wait
abbrev pub is_on_cycle : List WaitUnit → WaitUnit → Bool
is_on_cycle graph w = has_id w.unit (widened (edges_in graph) (length graph) w.edges)

abbrev pub names_of : List WaitUnit → List Id
names_of ws = map (λ w. w.unit) ws

-- the youngest ACID unit on a cycle; if there is none, the youngest subtransaction
abbrev pub victim_of : List WaitUnit → Option Id
victim_of graph =
    let on = filter (is_on_cycle graph) graph in
    option_or (greatest (names_of (filter (λ w. w.acid) on))) (greatest (names_of on))

abbrev pub victim : Trace → Option Id
victim trace = victim_of (wait_graph trace)

-- the longest waiting unit whose statement no longer clashes
abbrev pub next_unblocked : Trace → Option Id
next_unblocked trace = find (λ u. is_empty (clashing_now trace u)) (wait_list trace)
