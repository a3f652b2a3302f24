-- What is known of units, beside their kinds and where they stand: the statements that they have done, and over which tables.
use Rattle.salt_ast.specs.declared.trees.Statement.{Statement}
use Rattle.salt_audit.specs.Order.{id_cmp}
use Rattle.salt_audit.specs.Laws.{is_same_answer, same_all}
use Rattle.salt_audit.specs.Knowing.{Knows}
use Rattle.salt_audit.specs.Replaying.{is_amiss}
use Rattle.salt_model.specs.After.{kept, tables_after, vars_of}
use Rattle.salt_model.specs.Statements.{UnitRun, serial}
use Rattle.salt_model.specs.Trace.{Trace}
use Rattle.salt_model.specs.Units.{answers_of, done_of, is_open, open_units, units_begun}
use Rattle.salt_model.specs.declared.events.Answer.{Answer}
use Rattle.salt_model.specs.declared.events.End.TheVariants.{Committed}
use Rattle.salt_model.specs.declared.events.Event.TheVariants.{Defined, Did, Ended}
use Rattle.salt_model.specs.declared.events.Event.{Event}
use Rattle.salt_model.specs.declared.vars.Binding.{Binding}
use Rattle.salt_values.specs.Id.{is_same_id}
use Rattle.salt_values.specs.declared.id.Id.{Id}
use Rattle.salt_verdict.specs.Made.{tables_made}
use Rattle.salt_verdict.specs.declared.ledger.Act.{Act}
use Rattle.salt_verdict.specs.declared.ledger.Ledger.{Ledger}
use Rattle.std.specs.BTreeMap.{BTreeMap, get}
use Rattle.std.specs.List.{filter}
use Rattle.std.specs.Prelude.{Bool, List, None, Option, Some, [], false, if◌then◌else◌, not, true, ◌&&◌, ◌++◌, ◌∷◌, ◌≡◌}

-- what the unit of this name has done
abbrev pub act_in : Id → BTreeMap Id Act → Option Act
act_in u acts = get id_cmp acts u

-- a unit that is not noted has no variables, and has done nothing
abbrev pub vars_in : Option Act → List Binding
vars_in None = []
vars_in (Some a) = a.vars

abbrev pub done_in : Option Act → List Statement
done_in None = []
done_in (Some a) = a.done

abbrev pub answers_in : Option Act → List Answer
answers_in None = []
answers_in (Some a) = a.answers

-- what a unit's statements give where they are done again
abbrev pub run_by : Ledger → Id → UnitRun
run_by l u = let act = act_in u l.acts in serial l.state.schema (tables_made l.rows) (vars_in act) (done_in act)

abbrev pub replays_by : Ledger → Id → Bool
replays_by l u = same_all is_same_answer (answers_in (act_in u l.acts)) (run_by l u).answers

-- a replay does not give the unit's answers
abbrev pub is_unfaithful : Ledger → Id → Bool
is_unfaithful l u = not (replays_by l u)

-- the open units of which that is so
abbrev pub unfaithful_in : Ledger → List Id
unfaithful_in l = filter (is_unfaithful l) l.active.items

-- what a unit's replay gives may change by the event: by its own statement, by a commit, by a definition
abbrev pub may_change : Event → Id → Bool
may_change (Did v st a) u = is_same_id u v
may_change (Ended v (Committed n)) u = true
may_change (Defined n text) u = true
may_change e u = false

-- those of the open units that a replay behind the event tells
abbrev pub unfaithful_by : Event → Ledger → List Id
unfaithful_by e l = filter (λ u. may_change e u && is_unfaithful l u) l.active.items

-- no open unit is unfaithful
abbrev pub AreFaithful : Ledger → Type 0
AreFaithful l = unfaithful_in l ≡ []

abbrev pub amiss_of : Ledger → Id → Event → List Id
amiss_of l u e = if is_amiss e (answers_in (act_in u l.acts)) then u ∷ [] else []

-- the unit of the event, where it is amiss behind the unit's answers
abbrev pub amiss_by : Ledger → Event → List Id
amiss_by l (Did u st a) = amiss_of l u (Did u st a)
amiss_by l (Ended u end) = amiss_of l u (Ended u end)
amiss_by l e = []

-- the units that break honest at an event, by what is known before it and behind it
abbrev pub dishonest_by : (before after : Ledger) → Event → List Id
dishonest_by before after e = unfaithful_in after ++ amiss_by before e

-- what is known is what the trace tells; of what units have done, that of the open ones
pub record HoldsTrace (l : Ledger) (trace : Trace) : Type 0 where
  pub knows : Knows l.state trace
  pub tables : tables_after trace ≡ tables_made l.rows
  pub conts : (kept trace).conts ≡ l.state.conts
  pub vars : (u : Id) → is_open trace u ≡ true → vars_of u trace ≡ vars_in (act_in u l.acts)
  pub done : (u : Id) → is_open trace u ≡ true → done_of u trace ≡ done_in (act_in u l.acts)
  pub answers : (u : Id) → is_open trace u ≡ true → answers_of u trace ≡ answers_in (act_in u l.acts)
  pub order : units_begun trace ≡ l.order
  pub active : open_units trace ≡ l.active.items
