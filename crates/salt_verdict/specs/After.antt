-- What is known behind an event, by what was known before it.
use Rattle.salt_ast.specs.declared.trees.Statement.{Statement}
use Rattle.salt_audit.specs.Standing.{begun_in}
use Rattle.salt_audit.specs.Telling.{IsBehind, conts_by}
use Rattle.salt_audit.specs.declared.state.State.{State}
use Rattle.salt_model.specs.Tables.{Tables}
use Rattle.salt_model.specs.declared.events.Answer.{Answer}
use Rattle.salt_model.specs.declared.events.End.TheVariants.{Committed}
use Rattle.salt_model.specs.declared.events.End.{End}
use Rattle.salt_model.specs.declared.events.Event.TheVariants.{Began, Did, Ended}
use Rattle.salt_model.specs.declared.events.Event.{Event}
use Rattle.salt_model.specs.declared.vars.Binding.{Binding}
use Rattle.salt_values.specs.Id.{is_same_id, without}
use Rattle.salt_values.specs.declared.cont.Cont.{Cont}
use Rattle.salt_values.specs.declared.id.Id.{Id}
use Rattle.salt_verdict.specs.Goings.{conts_noted}
use Rattle.salt_verdict.specs.Ledger.{act_in, answers_in, done_in, run_by, vars_in}
use Rattle.salt_verdict.specs.Made.{tables_made}
use Rattle.salt_verdict.specs.Variables.{vars_begun}
use Rattle.salt_verdict.specs.declared.ledger.Act.{Act}
use Rattle.salt_verdict.specs.declared.ledger.Ledger.{Ledger}
use Rattle.salt_verdict.specs.declared.steps.Commit.{Commit}
use Rattle.std.specs.BTreeMap.{BTreeMap}
use Rattle.std.specs.Prelude.{List, None, Option, Some, [], if◌then◌else◌, ℕ, ◌++◌, ◌∷◌, ◌≡◌}

abbrev pub commit_as : Id → ℕ → Commit
commit_as u n = record { unit = u; number = n }

abbrev pub commit_of : Id → End → Option Commit
commit_of u (Committed n) = Some (commit_as u n)
commit_of u end = None

-- the commit that an event tells
abbrev pub commit_in : Event → Option Commit
commit_in (Ended u end) = commit_of u end
commit_in e = None

abbrev pub rows_by : Event → Ledger → Tables
rows_by (Ended u (Committed n)) l = (run_by l u).tables
rows_by e l = tables_made l.rows

-- a unit that begins with these variables
abbrev pub fresh : List Binding → Act
fresh vars = record { vars = vars; done = []; answers = [] }

abbrev pub one_more : Statement → Answer → Option Act → Act
one_more st a act = record { vars = vars_in act; done = done_in act ++ st ∷ []; answers = answers_in act ++ a ∷ [] }

-- what a unit has done is forgotten as it ends
abbrev pub act_by : Event → State → BTreeMap Id Act → Id → Option Act
act_by (Began v kind) s acts u = if is_same_id u v then Some (fresh (vars_begun s.catalogue s.conts kind)) else act_in u acts
act_by (Did v st a) s acts u = if is_same_id u v then Some (one_more st a (act_in v acts)) else act_in u acts
act_by (Ended v end) s acts u = if is_same_id u v then None else act_in u acts
act_by e s acts u = act_in u acts

abbrev pub order_by : Event → List Id → List Id
order_by (Began u kind) order = order ++ u ∷ []
order_by e order = order

abbrev pub active_by : Event → List Id → List Id
active_by (Began u kind) us = us ++ u ∷ []
active_by (Ended u end) us = without (u ∷ []) us
active_by e us = us

-- where programs go on, with their variables
abbrev pub conts_after : Event → Ledger → List Cont
conts_after (Ended u (Committed n)) l = conts_noted l.state.catalogue n (run_by l u).vars (begun_in u l.state.units) l.state.conts
conts_after e l = conts_by e l.state

-- what is known behind the event; where programs go on but for their variables is told with the state
pub record IsAfter (l m : Ledger) (e : Event) : Type 0 where
  pub state : IsBehind l.state (record m.state { conts = conts_by e l.state }) e
  pub rows : tables_made m.rows ≡ rows_by e l
  pub conts : m.state.conts ≡ conts_after e l
  pub acts : (u : Id) → act_in u m.acts ≡ act_by e l.state l.acts u
  pub order : m.order ≡ order_by e l.order
  pub active : m.active.items ≡ active_by e l.active.items
