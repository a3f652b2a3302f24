-- Whether an event may come, by what is known behind the events so far.
use Rattle.salt_ast.specs.Judgement.{statement_fault}
use Rattle.salt_ast.specs.ProgramJudgement.{program_named, session_scope}
use Rattle.salt_ast.specs.declared.lines.Line.{Line}
use Rattle.salt_ast.specs.declared.trees.Statement.{Statement}
use Rattle.salt_audit.specs.Order.{id_cmp}
use Rattle.salt_audit.specs.Formed.{fits_call, is_first_opening, is_part, is_same_statement}
use Rattle.salt_audit.specs.declared.state.Begun.{Begun}
use Rattle.salt_audit.specs.declared.state.State.{State}
use Rattle.law_definitions.specs.Texts.{definition_in}
use Rattle.salt_events.specs.Definitions as of
use Rattle.salt_scheduler.specs.Refusals.{known_by, line_refusal}
use Rattle.salt_model.specs.declared.events.Event.TheVariants.{Accepted, Began, Defined, Did, Early, Ended, Finished, Released, Waits}
use Rattle.salt_model.specs.declared.events.Event.{Event}
use Rattle.salt_model.specs.declared.events.UnitKind.TheVariants.{Acid, Call, First, Later}
use Rattle.salt_model.specs.declared.events.UnitKind.{UnitKind}
use Rattle.salt_values.specs.Id.{has_id, is_same_id}
use Rattle.salt_values.specs.declared.cont.Cont.{Cont}
use Rattle.salt_values.specs.declared.id.Id.{Id}
use Rattle.std.specs.BTreeMap.{BTreeMap, get}
use Rattle.std.specs.List.{list_all}
use Rattle.std.specs.Prelude.{Bool, List, None, Option, Some, [], false, find, if◌then◌else◌, is_none, not, option_and_then, option_map, slice_get, true, ℕ, ◌&&◌}

-- the continuation is of this program
abbrev pub is_of : Id → Cont → Bool
is_of b c = is_same_id b c.base

-- the unit of this name
abbrev pub begun_in : Id → BTreeMap Id Begun → Option Begun
begun_in u units = get id_cmp units u

abbrev pub is_open_unit : Option Begun → Bool
is_open_unit None = false
is_open_unit (Some n) = n.is_open

-- the continuation of a program
abbrev pub cont_named : Id → List Cont → Option Cont
cont_named b conts = find (λ (c : Cont). is_same_id b c.base) conts

abbrev pub next_due : Id → List Cont → Option ℕ
next_due b conts = option_map (λ (c : Cont). c.next) (cont_named b conts)

abbrev pub goes_on : State → Id → Bool
goes_on s b = has_id b s.accepted && not (has_id b s.finished)

abbrev pub may_begin_by : State → UnitKind → Bool
may_begin_by s (Acid session) = true
may_begin_by s (Call session n args) = fits_call false args (program_named s.catalogue n)
may_begin_by s (First session b n args) = not (has_id b s.bases) && fits_call true args (program_named s.catalogue n)
may_begin_by s (Later b part) = goes_on s b && is_part part (next_due b s.conts)

-- the statement that the unit has to do next
abbrev pub next_of : Begun → Option Statement
next_of n = option_and_then (λ block. slice_get block n.done) n.block

abbrev pub fits_kind : State → Statement → Option Statement → UnitKind → Bool
fits_kind s st next (Acid session) = is_none (statement_fault s.schema session_scope st)
fits_kind s st next kind = is_same_statement st next

abbrev pub fits_unit : State → Statement → Begun → Bool
fits_unit s st n = fits_kind s st (next_of n) n.kind

abbrev pub may_do_by : State → Statement → Option Begun → Bool
may_do_by s st None = false
may_do_by s st (Some n) = n.is_open && fits_unit s st n

abbrev pub may_define_by : State → Option Line → Bool
may_define_by s None = false
may_define_by s (Some line) = is_none (line_refusal (known_by s.schema s.catalogue [] 0) line)

abbrev pub may_come_by : State → Event → Bool
may_come_by s (Began u kind) = is_none (begun_in u s.units) && may_begin_by s kind
may_come_by s (Did u st answer) = may_do_by s st (begun_in u s.units)
may_come_by s (Waits u owners) = is_open_unit (begun_in u s.units)
may_come_by s (Ended u end) = is_open_unit (begun_in u s.units)
may_come_by s (Accepted b) = has_id b s.bases
may_come_by s (Finished b) = has_id b s.bases
may_come_by s (Released bs) = list_all (λ b. has_id b s.bases) bs
may_come_by s (Early bs) = list_all (λ b. has_id b s.bases) bs
may_come_by s (Defined n text) = may_define_by s (option_map of.line_defining (definition_in text))
may_come_by s e = true

abbrev pub is_formed_at : State → Event → Bool
is_formed_at s e = if s.opened then may_come_by s e else is_first_opening e
