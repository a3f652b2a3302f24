-- What is asked of a trace is looked up in its state.
use Rattle.salt_ast.specs.declared.trees.Statement.{Statement}
use Rattle.law_states.specs.Keeps.{KeepsUnit, KeepsUnits}
use Rattle.law_states.specs.Laws.{LooksUp}
use Rattle.law_states.specs.OpenUnits.{OpenUnit, UnitState, asking, asks_next, belongs_to_program, belongs_to_session, counted, names_in, unit_of_program, unit_of_session}
use Rattle.salt_model.specs.Kept.{block_of_kind}
use Rattle.salt_model.specs.Trace.{Trace}
use Rattle.salt_model.specs.Turns.{fresh_base, fresh_unit, next_number}
use Rattle.salt_model.specs.Units.{Never, Over, Running, Standing, Waiting, done_of, is_of_program, is_of_session, is_waiting_standing, line_waited, program_of_kind, program_unit, session_of_kind, session_unit, standing}
use Rattle.salt_model.specs.Waiting.{asked_by, asking_line, block_of, statement_in, statement_of_line}
use Rattle.salt_model.specs.Words.{Every, first_of_list}
use Rattle.salt_model.specs.declared.events.UnitKind.{UnitKind}
use Rattle.salt_model.specs.declared.events.UnitKind.TheVariants.{Acid}
use Rattle.salt_values.specs.Id.{is_same_id}
use Rattle.salt_values.specs.declared.id.Id.{Id}
use Rattle.std.proofs.Common.{ap, sym, ◌∙◌}
use Rattle.std.proofs.lemmas.Option.{slice_get_within}
use Rattle.std.specs.List.{filter, find}
use Rattle.std.specs.Prelude.{Bool, List, None, Option, Some, [], cond, false, length, option_and_then, option_map, refl, slice_get, true, ℕ, ◌+◌, ◌<◌, ◌==◌, ◌∷◌, ◌≡◌}

-- the first of the names that pass is the name of the first unit that passes
first-named : (p : Id → Bool) (q : OpenUnit → Bool) (os : List OpenUnit) → Every (λ o. p o.unit ≡ q o) os →
    first_of_list (filter p (names_in os)) ≡ option_map (λ (o : OpenUnit). o.unit) (find q os)
first-named p q [] h = refl
first-named p q (o ∷ os) h =
    ap (λ b. first_of_list (cond b (o.unit ∷ filter p (names_in os)) (filter p (names_in os)))) h.0 ∙ by (q o) (first-named p q os h.1)
  where
    by : (b : Bool) → first_of_list (filter p (names_in os)) ≡ option_map (λ (o : OpenUnit). o.unit) (find q os) →
        first_of_list (cond b (o.unit ∷ filter p (names_in os)) (filter p (names_in os))) ≡ option_map (λ (o : OpenUnit). o.unit) (cond b (Some o) (find q os))
    by true e = refl
    by false e = e

each-test : (trace : Trace) (p : Id → Bool) (q : OpenUnit → Bool) → ((o : OpenUnit) → KeepsUnit trace o → p o.unit ≡ q o) → (os : List OpenUnit) →
    Every (KeepsUnit trace) os → Every (λ o. p o.unit ≡ q o) os
each-test trace p q f [] h = tt
each-test trace p q f (o ∷ os) h = (f o h.0, each-test trace p q f os h.1)

pub session-kept : (st : UnitState) (trace : Trace) (s : ℕ) → KeepsUnits st trace →
    session_unit s trace ≡ option_map (λ (o : OpenUnit). o.unit) (unit_of_session s st)
session-kept st trace s keeps =
    ap (λ us. first_of_list (filter (is_of_session s trace) us)) keeps.units
    ∙ first-named (is_of_session s trace) (belongs_to_session s) st.units (each-test trace (is_of_session s trace) (belongs_to_session s) (λ o k. ap (test (λ t. s == t)) (ap (option_and_then session_of_kind) k.kind)) st.units keeps.each)
  where
    test : (ℕ → Bool) → Option ℕ → Bool
    test f o = elim o [ None ↦ false | Some t ↦ f t ]

pub program-kept : (st : UnitState) (trace : Trace) (b : Id) → KeepsUnits st trace →
    program_unit b trace ≡ option_map (λ (o : OpenUnit). o.unit) (unit_of_program b st)
program-kept st trace b keeps =
    ap (λ us. first_of_list (filter (is_of_program b trace) us)) keeps.units
    ∙ first-named (is_of_program b trace) (belongs_to_program b) st.units (each-test trace (is_of_program b trace) (belongs_to_program b) (λ o k. ap (test (λ c. is_same_id b c)) (ap (option_and_then program_of_kind) k.kind)) st.units keeps.each)
  where
    test : (Id → Bool) → Option Id → Bool
    test f o = elim o [ None ↦ false | Some t ↦ f t ]

pub block-kept : (st : UnitState) (trace : Trace) (o : OpenUnit) → KeepsUnits st trace → KeepsUnit trace o →
    block_of o.unit trace ≡ block_of_kind st.kept o.kind
block-kept st trace o keeps k = (λ i. option_and_then (block_of_kind (keeps.kept i)) (k.kind i))

module _ (st : UnitState) (trace : Trace) (o : OpenUnit) (keeps : KeepsUnits st trace) (k : KeepsUnit trace o) where
  runs : (s : Standing) → is_waiting_standing s ≡ o.waiting →
      cond (is_waiting_standing s) (statement_of_line (line_waited o.unit trace)) None ≡ o.asks →
      statement_of_line (asking_line o.unit trace s) ≡ cond o.waiting o.asks (statement_of_line st.line)
  runs Waiting w a = a ∙ ap (λ b. cond b o.asks (statement_of_line st.line)) w
  runs Never w a = ap statement_of_line keeps.line ∙ ap (λ b. cond b o.asks (statement_of_line st.line)) w
  runs Running w a = ap statement_of_line keeps.line ∙ ap (λ b. cond b o.asks (statement_of_line st.line)) w
  runs (Over end) w a = ap statement_of_line keeps.line ∙ ap (λ b. cond b o.asks (statement_of_line st.line)) w

  asked-in : (b : Option (List Statement)) → length (done_of o.unit trace) ≡ o.done → statement_in o.unit trace b ≡ asking st.line o b
  asked-in (Some block) e = ap (slice_get block) e
  asked-in None e = runs (standing o.unit trace) k.waiting k.asks

  asked-by-kind : (kind : UnitKind) → counted kind (length (done_of o.unit trace)) ≡ o.done →
      statement_in o.unit trace (block_of_kind st.kept kind) ≡ asking st.line o (block_of_kind st.kept kind)
  asked-by-kind (Acid s) e = runs (standing o.unit trace) k.waiting k.asks
  asked-by-kind kind e = asked-in (block_of_kind st.kept kind) e

  -- the statement that an open unit asks for
  pub asked-kept : asked_by o.unit trace ≡ asks_next st o
  asked-kept = ap (statement_in o.unit trace) (block-kept st trace o keeps k) ∙ asked-by-kind o.kind k.done

pub unit-name-kept : (st : UnitState) (trace : Trace) → KeepsUnits st trace →
    fresh_unit trace ≡ record { boot = st.kept.boot; seq = st.unit_count + 1 }
unit-name-kept st trace keeps = λ i. record { boot = (keeps.kept i).boot; seq = keeps.unit_count i + 1 }

pub base-name-kept : (st : UnitState) (trace : Trace) → KeepsUnits st trace →
    fresh_base trace ≡ record { boot = st.kept.boot; seq = st.base_count + 1 }
base-name-kept st trace keeps = λ i. record { boot = (keeps.kept i).boot; seq = keeps.base_count i + 1 }

pub number-kept : (st : UnitState) (trace : Trace) → KeepsUnits st trace → next_number trace ≡ st.kept.decisions + 1
number-kept st trace keeps = ap (λ k. k.decisions + 1) keeps.kept

-- a statement that a unit asks for stands within its block
pub asked-within : (st : UnitState) (o : OpenUnit) (block : List Statement) (x : Statement) → block_of_kind st.kept o.kind ≡ Some block →
    asks_next st o ≡ Some x → o.done < length block
asked-within st o block x b h = slice_get_within block o.done x (sym (ap (asking st.line o) b) ∙ h)

pub looks-up : (s : UnitState) (trace : Trace) → KeepsUnits s trace → LooksUp s trace
looks-up s trace keeps = record {
  sessions = λ t. session-kept s trace t keeps;
  programs = λ b. program-kept s trace b keeps;
  statements = λ o k. asked-kept s trace o keeps k;
  within = asked-within s;
}
