-- What a line, a turn and settling bring next, told by the state of units, and by what locks, waits and releases give beside it.
use Rattle.law_states.specs.OpenUnits.{OpenUnit, UnitState, asks_next, unit_named, unit_of_program, unit_of_session}
use Rattle.law_states.specs.Steps.{outcome_under}
use Rattle.salt_ast.specs.ProgramTexts.{program_text}
use Rattle.salt_ast.specs.Texts.{table_text}
use Rattle.salt_ast.specs.declared.lines.Act.{Act}
use Rattle.salt_ast.specs.declared.lines.Act.TheVariants.{Begin, Call, Commit, Do, Rollback, Step}
use Rattle.salt_ast.specs.declared.lines.Line.{Line}
use Rattle.salt_ast.specs.declared.lines.Line.TheVariants.{Crash, Go, GoAll, Net, Nothing, Program, Session, ShowBases, ShowLocks, Table}
use Rattle.salt_ast.specs.declared.programs.Body.{Body}
use Rattle.salt_ast.specs.declared.programs.Body.TheVariants.{Acid, Base}
use Rattle.salt_ast.specs.declared.trees.Statement.{Statement}
use Rattle.salt_model.specs.Kept.{block_of_kind, cont_of, kept_program, schema_of}
use Rattle.salt_model.specs.Next.{is_decision}
use Rattle.salt_model.specs.Reaches.{reach}
use Rattle.salt_model.specs.declared.events.Answer.{Answer}
use Rattle.salt_model.specs.declared.events.Answer.TheVariants.{Failed}
use Rattle.salt_model.specs.declared.events.Cause.{Cause}
use Rattle.salt_model.specs.declared.events.End.{End}
use Rattle.salt_model.specs.declared.events.End.TheVariants.{Branched, Committed, Failed, RolledBack, Victim}
use Rattle.salt_model.specs.declared.events.Event.{Event}
use Rattle.salt_model.specs.declared.events.Event.TheVariants.{Accepted, Armed, Began, Defined, Did, Ended, Finished, Shown, Waits}
use Rattle.salt_model.specs.declared.events.Owner.{Owner}
use Rattle.salt_model.specs.declared.events.UnitKind.{UnitKind}
use Rattle.salt_model.specs.declared.events.UnitKind.TheVariants.{Acid, Call, First, Later}
use Rattle.salt_model.specs.declared.shown.Item.{Item}
use Rattle.salt_values.specs.declared.cont.Cont.{Cont}
use Rattle.salt_values.specs.declared.id.Id.{Id}
use Rattle.salt_values.specs.declared.value.Value.{Value}
use Rattle.std.specs.Bool.{then_some}
use Rattle.std.specs.Prelude.{Bool, List, None, Option, Some, [], false, is_none, is_some, length, option_map, ℕ, ◌+◌, ◌==◌, ◌∷◌}

-- who clashes with an open unit's statement
abbrev pub Clashes : Type 0
Clashes = OpenUnit → Statement → List Owner

-- what `show locks` and `show bases` show
pub record Items : Type 0 where
  pub locks : List Item
  pub bases : List Item

-- what is known beside units and tables: who clashes, who is to be a victim, served, released
pub record Beside : Type 0 where
  pub clash : Clashes
  pub items : Items
  pub victim : Option Id
  pub served : Option Id
  pub due : List Id

abbrev pub next_unit : UnitState → Id
next_unit s = record { boot = s.kept.boot; seq = s.unit_count + 1 }

abbrev pub next_base : UnitState → Id
next_base s = record { boot = s.kept.boot; seq = s.base_count + 1 }

abbrev pub next_decision_number : UnitState → ℕ
next_decision_number s = s.kept.decisions + 1

abbrev pub begins_in : UnitState → UnitKind → Event
begins_in s kind = Began (next_unit s) kind

abbrev pub commits_in : UnitState → OpenUnit → Event
commits_in s o = Ended o.unit (Committed (next_decision_number s))

abbrev pub does_in : UnitState → OpenUnit → Statement → Event
does_in s o st = Did o.unit st (outcome_under s.kept o st).answer

abbrev pub asks_in : UnitState → OpenUnit → Statement → List Owner → Event
asks_in s o st [] = does_in s o st
asks_in s o st (owner ∷ owners) = Waits o.unit (owner ∷ owners)

-- a turn of a unit: it asks for its next statement
abbrev pub turn_in : UnitState → Clashes → OpenUnit → Option Event
turn_in s clash o = option_map (λ st. asks_in s o st (clash o st)) (asks_next s o)

abbrev pub serve_in : UnitState → OpenUnit → Option Event
serve_in s o = option_map (does_in s o) (asks_next s o)

abbrev pub turn_of_in : UnitState → Clashes → Option OpenUnit → Option Event
turn_of_in s clash None = None
turn_of_in s clash (Some o) = turn_in s clash o

abbrev pub kind_called_in : UnitState → ℕ → List ℕ → List Value → Body → UnitKind
kind_called_in s t n args (Acid block) = Call t n args
kind_called_in s t n args (Base parts) = First t (next_base s) n args

abbrev pub calls_in : UnitState → ℕ → List ℕ → List Value → Option Event
calls_in s t n args = option_map (λ p. begins_in s (kind_called_in s t n args p.body)) (kept_program n s.kept)

-- what an act of session t brings, with its open unit
abbrev pub act_in : UnitState → Clashes → ℕ → Act → Option OpenUnit → Option Event
act_in s clash t Begin o = Some (begins_in s (Acid t))
act_in s clash t (Do st) None = Some (begins_in s (Acid t))
act_in s clash t (Do st) (Some o) = turn_in s clash o
act_in s clash t (Call n args) o = calls_in s t n args
act_in s clash t Step o = turn_of_in s clash o
act_in s clash t Commit o = option_map (commits_in s) o
act_in s clash t Rollback o = option_map (λ (o : OpenUnit). Ended o.unit RolledBack) o

abbrev pub goes_on_in : UnitState → Clashes → Id → Option OpenUnit → Option Event
goes_on_in s clash b (Some o) = turn_in s clash o
goes_on_in s clash b None = option_map (λ (c : Cont). begins_in s (Later b c.next)) (cont_of b s.kept)

abbrev pub go_in : UnitState → Clashes → Id → Option Event
go_in s clash b = goes_on_in s clash b (unit_of_program b s)

-- the first event of a line that is not refused
abbrev pub line_in : UnitState → Clashes → Items → Line → Option Event
line_in s clash items Nothing = None
line_in s clash items (Table d) = Some (Defined (next_decision_number s) (table_text d))
line_in s clash items (Program p) = Some (Defined (next_decision_number s) (program_text p))
line_in s clash items (Session t act) = act_in s clash t act (unit_of_session t s)
line_in s clash items (Go b) = go_in s clash b
line_in s clash items GoAll = None
line_in s clash items ShowLocks = Some (Shown items.locks)
line_in s clash items ShowBases = Some (Shown items.bases)
line_in s clash items (Crash pairs) = Some (Armed pairs)
line_in s clash items (Net pairs) = Some (Armed pairs)

-- a unit's first turn comes with its Began, unless `begin` opened it
abbrev pub after_began_in : UnitState → Clashes → OpenUnit → Line → UnitKind → Option Event
after_began_in s clash o (Session t Begin) (Acid z) = None
after_began_in s clash o line kind = turn_in s clash o

abbrev pub fails_in : UnitState → OpenUnit → Cause → UnitKind → Event
fails_in s o c (Later b part) = Ended o.unit (Branched (next_decision_number s) c)
fails_in s o c kind = Ended o.unit (Failed c)

abbrev pub is_at_end_in : OpenUnit → Option (List Statement) → Bool
is_at_end_in o (Some block) = o.done == length block
is_at_end_in o None = o.single

abbrev pub after_did_in : UnitState → OpenUnit → Answer → Option Event
after_did_in s o (Failed c) = Some (fails_in s o c o.kind)
after_did_in s o answer = then_some (is_at_end_in o (block_of_kind s.kept o.kind)) (commits_in s o)

abbrev pub finishes_in : UnitState → Id → Option Event
finishes_in s b = then_some (is_none (cont_of b s.kept)) (Finished b)

abbrev pub after_end_in : UnitState → End → UnitKind → Option Event
after_end_in s (Committed n) (First t b name args) = Some (Accepted b)
after_end_in s (Committed n) (Later b part) = finishes_in s b
after_end_in s (Branched n c) (Later b part) = finishes_in s b
after_end_in s end kind = None

-- settling, with the victim and who is served
abbrev pub settle_in : UnitState → Option Id → Option OpenUnit → Option Event
settle_in s (Some u) served = Some (Ended u Victim)
settle_in s None (Some o) = serve_in s o
settle_in s None None = None

-- whether an event is at the devices
abbrev pub at_devices_in : UnitState → Event → Bool
at_devices_in s (Did u st answer) = elim (unit_named u s.units) [ None ↦ false | Some o ↦ is_some (reach (schema_of s.kept) o.vars st) ]
at_devices_in s e = is_decision e
