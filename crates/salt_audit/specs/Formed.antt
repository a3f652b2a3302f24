-- A story is formed: its events speak of units and programs that are there, of statements that fit, and of definitions that are not refused.
use Rattle.salt_ast.specs.Judgement.{statement_fault}
use Rattle.salt_ast.specs.ProgramJudgement.{are_arguments, is_base, session_scope}
use Rattle.salt_ast.specs.Texts.{statement_text}
use Rattle.salt_ast.specs.declared.programs.ProgramDef.{ProgramDef}
use Rattle.salt_ast.specs.declared.trees.Statement.{Statement}
use Rattle.salt_audit.specs.Retelling.{line_or_nothing, told}
use Rattle.law_definitions.specs.Texts.{definition_in}
use Rattle.salt_model.specs.After.{kept}
use Rattle.salt_model.specs.Continuing.{is_unfinished, part_due}
use Rattle.salt_model.specs.Kept.{Definition, block_of_kind, kept_program, schema_of}
use Rattle.salt_model.specs.Phases.{has_opened}
use Rattle.salt_model.specs.Programs.{programs_in}
use Rattle.salt_model.specs.Refusals.{judged}
use Rattle.salt_model.specs.Trace.{Trace, from, ◌asks◌, ◌says◌, ◌turns◌}
use Rattle.salt_model.specs.Units.{done_of, is_open, kind_of}
use Rattle.salt_model.specs.declared.events.Event.TheVariants.{Accepted, Began, Defined, Did, Early, Ended, Finished, Opened, Released, Waits}
use Rattle.salt_model.specs.declared.events.Event.{Event}
use Rattle.salt_model.specs.declared.events.UnitKind.TheVariants.{Acid, Call, First, Later}
use Rattle.salt_model.specs.declared.events.UnitKind.{UnitKind}
use Rattle.salt_ast.specs.TokenSpelling.{same_bytes}
use Rattle.salt_values.specs.Id.{has_id, is_same_id}
use Rattle.salt_values.specs.declared.id.Id.{Id}
use Rattle.salt_values.specs.declared.value.Value.{Value}
use Rattle.std.specs.List.{list_all}
use Rattle.std.specs.Prelude.{Bool, List, None, Option, Some, [], false, if◌then◌else◌, is_none, length, not, option_and_then, slice_get, true, ℕ, ◌&&◌, ◌==◌, ◌∷◌}

-- the statements that a unit has to do, of the program as it was when the unit began; a session's unit has none
abbrev pub block_of : Id → Trace → Option (List Statement)
block_of u (from k) = None
block_of u (trace asks asked) = block_of u trace
block_of u (trace turns b) = block_of u trace
block_of u (trace says Began v kind) = if is_same_id u v then block_of_kind (kept trace) kind else block_of u trace
block_of u (trace says e) = block_of u trace

-- a First unit of the program has begun
abbrev pub has_program : Trace → Id → Bool
has_program trace b = has_id b (programs_in trace)

abbrev pub fits_call : (base : Bool) → List Value → Option ProgramDef → Bool
fits_call base args None = false
fits_call true args (Some p) = is_base p && are_arguments p.params args
fits_call false args (Some p) = not (is_base p) && are_arguments p.params args

abbrev pub is_part : ℕ → Option ℕ → Bool
is_part n None = false
is_part n (Some m) = n == m

-- what a unit of this kind needs to begin
abbrev pub may_begin : Trace → UnitKind → Bool
may_begin trace (Acid s) = true
may_begin trace (Call s n args) = fits_call false args (kept_program n (kept trace))
may_begin trace (First s b n args) = not (has_program trace b) && fits_call true args (kept_program n (kept trace))
may_begin trace (Later b part) = is_unfinished trace b && is_part part (part_due trace b)

-- two statements have one canonical text
abbrev pub is_same_statement : Statement → Option Statement → Bool
is_same_statement st None = false
is_same_statement st (Some su) = same_bytes (statement_text st) (statement_text su)

-- the statement fits the tables, or is the next one of the unit's block
abbrev pub may_do : Trace → Id → Statement → Option UnitKind → Bool
may_do trace u st None = false
may_do trace u st (Some (Acid s)) = is_none (statement_fault (schema_of (kept trace)) session_scope st)
may_do trace u st (Some kind) = is_same_statement st (option_and_then (λ block. slice_get block (length (done_of u trace))) (block_of u trace))

abbrev pub may_define : Trace → Option Definition → Bool
may_define trace None = false
may_define trace (Some d) = is_none (judged trace (line_or_nothing (Some d)))

-- behind the first opening
abbrev pub may_come : Trace → Event → Bool
may_come trace (Began u kind) = is_none (kind_of u trace) && may_begin trace kind
may_come trace (Did u st answer) = is_open trace u && may_do trace u st (kind_of u trace)
may_come trace (Waits u owners) = is_open trace u
may_come trace (Ended u end) = is_open trace u
may_come trace (Accepted b) = has_program trace b
may_come trace (Finished b) = has_program trace b
may_come trace (Released bs) = list_all (has_program trace) bs
may_come trace (Early bs) = list_all (has_program trace) bs
may_come trace (Defined n text) = may_define trace (definition_in text)
may_come trace e = true

-- an empty database is opened for the first time
abbrev pub is_first_opening : Event → Bool
is_first_opening (Opened boot n) = (boot == 1) && (n == 0)
is_first_opening e = false

-- the event may come after a trace that is formed
abbrev pub is_formed_by : Trace → Event → Bool
is_formed_by trace e = if has_opened trace then may_come trace e else is_first_opening e

abbrev pub is_formed_on : Trace → List Event → Bool
is_formed_on trace [] = true
is_formed_on trace (e ∷ es) = is_formed_by trace e && is_formed_on (told trace e) es
