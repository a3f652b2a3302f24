-- What is known goes on.
use Rattle.salt_ast.specs.ProgramJudgement.{program_named}
use Rattle.salt_ast.specs.declared.programs.ProgramDef.{ProgramDef}
use Rattle.salt_audit.specs.Formed.{is_formed_by}
use Rattle.salt_audit.specs.Knowing.{Knows, TellsUnit, stand_of}
use Rattle.salt_audit.specs.Retelling.{told}
use Rattle.salt_audit.specs.Standing.{begun_in, cont_named}
use Rattle.salt_audit.specs.Telling.{branched_by, conts_by, conts_ended, moved_by, program_by, tries_of, way_behind}
use Rattle.salt_audit.specs.declared.state.Begun.{Begun}
use Rattle.salt_ast.specs.Paths.{next_on_commit, next_on_failure}
use Rattle.salt_ast.specs.declared.trees.Statement.{Statement}
use Rattle.salt_books.proofs.Found.{cont_in-find}
use Rattle.salt_model.specs.After.{conts_at, branched, kept, run_of, tables_after, vars_of}
use Rattle.salt_model.specs.Phases.{has_opened}
use Rattle.salt_model.specs.Statements.{UnitRun, serial}
use Rattle.salt_model.specs.Trace.{Trace}
use Rattle.salt_model.specs.Units.{answers_of, done_of, is_open, kind_of, open_units, units_begun}
use Rattle.salt_model.specs.declared.events.Answer.{Answer}
use Rattle.salt_model.specs.declared.events.Cause.{Cause}
use Rattle.salt_model.specs.declared.events.End.TheVariants as end
use Rattle.salt_model.specs.declared.events.End.{End}
use Rattle.salt_model.specs.declared.events.Event.TheVariants as event
use Rattle.salt_model.specs.declared.events.Event.{Event}
use Rattle.salt_model.specs.declared.events.Owner.{Owner}
use Rattle.salt_model.specs.declared.events.UnitKind.{UnitKind}
use Rattle.salt_values.specs.Id.{is_same_id}
use Rattle.salt_values.specs.declared.id.Id.{Id}
use Rattle.salt_audit.proofs.Amiss.{id_is}
use Rattle.salt_audit.specs.declared.state.State.{State}
use Rattle.salt_model.specs.Kept.{begun_cont, conts_branched, conts_committed, cont_in, cont_of, moved, parts_of, programs_of, tries_left, values_kept, vars_at_call, vars_at_cont, vars_of_kind}
use Rattle.salt_model.specs.declared.events.UnitKind.TheVariants.{Acid, Call, First, Later}
use Rattle.salt_model.specs.declared.vars.Binding.{Binding}
use Rattle.salt_values.specs.declared.cont.Cont.{Cont}
use Rattle.salt_values.specs.declared.value.Value.{Value}
use Rattle.salt_verdict.proofs.Active.{does_open, ends_open, may, open_units_on}
use Rattle.salt_verdict.specs.After.{IsAfter, act_by, active_by, conts_after, fresh, one_more, order_by, rows_by}
use Rattle.salt_verdict.specs.Goings.{begun_with, conts_kept, conts_noted, moved_with}
use Rattle.salt_verdict.specs.Variables.{vars_begun, vars_called, vars_going, vars_placed}
use Rattle.salt_verdict.specs.declared.ledger.Act.{Act}
use Rattle.salt_verdict.specs.Ledger.{HoldsTrace, act_in, answers_in, done_in, run_by, vars_in}
use Rattle.salt_verdict.specs.Made.{tables_made}
use Rattle.salt_verdict.specs.declared.ledger.Ledger.{Ledger}
use Rattle.std.proofs.Common.{Bool, List, None, Option, Some, [], ap, false, if◌then◌else◌, map, option_and_then, option_map, refl, sym, true, true≢false, ℕ, ◌++◌, ◌∙◌, ◌∷◌, ◌≡◌}

abbrev pub kind_noted : Option Begun → Option UnitKind
kind_noted o = option_map (λ (n : Begun). n.kind) o

pub kind_same : (trace : Trace) (u : Id) (o : Option Begun) → TellsUnit trace u o → kind_of u trace ≡ kind_noted o
kind_same trace u None t = t.there
kind_same trace u (Some n) t = t.kind

-- WHAT IS READ OFF WHERE PROGRAMS GO ON

called_same : (args : List Value) (o : Option ProgramDef) →
    (elim o as (λ _. List Binding) [ None ↦ [] | Some p ↦ vars_at_call p args ]) ≡ vars_called args o
called_same args None = refl
called_same args (Some p) = refl

placed_same : (c : Cont) (o : Option ProgramDef) → (elim o as (λ _. List Binding) [ None ↦ [] | Some p ↦ vars_at_cont p c ]) ≡ vars_placed c o
placed_same c None = refl
placed_same c (Some p) = refl

going_same : (catalogue : List ProgramDef) (o : Option Cont) →
    (elim o as (λ _. List Binding) [ None ↦ [] | Some c ↦ elim (program_named catalogue c.program) as (λ _. List Binding) [ None ↦ [] | Some p ↦ vars_at_cont p c ] ])
    ≡ vars_going catalogue o
going_same catalogue None = refl
going_same catalogue (Some c) = placed_same c (program_named catalogue c.program)

begun_same : (b : Id) (n : ℕ) (args : List Value) (vars : List Binding) (o : Option ProgramDef) (cs : List Cont) →
    (elim o as (λ _. List Cont) [ None ↦ cs | Some p ↦ begun_cont b n p args vars (next_on_commit (parts_of p) 1) cs ]) ≡ begun_with b n args vars o cs
begun_same b n args vars None cs = refl
begun_same b n args vars (Some p) cs = refl

moved_same : (b : Id) (part : ℕ) (vars : List Binding) (o : Option ProgramDef) (cs : List Cont) →
    (elim o as (λ _. List Cont) [ None ↦ cs | Some p ↦ moved b (next_on_commit (parts_of p) part) (λ (c : Cont). record c { vars = values_kept p vars }) cs ])
    ≡ moved_with b part vars o cs
moved_same b part vars None cs = refl
moved_same b part vars (Some p) cs = refl

tries_same : (o : Option Cont) → (elim o as (λ _. ℕ) [ None ↦ 0 | Some c ↦ c.tries ]) ≡ tries_of o
tries_same None = refl
tries_same (Some c) = refl

failed_same : (b : Id) (part : ℕ) (o : Option ProgramDef) (tries : ℕ) (cs : List Cont) →
    (elim o as (λ _. List Cont) [ None ↦ cs | Some p ↦ moved b (next_on_failure (parts_of p) part tries) (λ (c : Cont). c) cs ])
    ≡ moved_by b (way_behind true part tries) o cs
failed_same b part None tries cs = refl
failed_same b part (Some p) tries cs = refl

-- WHAT A UNIT HAS DONE

record Tells (u : Id) (t : Trace) (o : Option Act) : Type 0 where
  vars : is_open t u ≡ true → vars_of u t ≡ vars_in o
  done : is_open t u ≡ true → done_of u t ≡ done_in o
  answers : is_open t u ≡ true → answers_of u t ≡ answers_in o

module _ (l : Ledger) (trace : Trace) (h : HoldsTrace l trace) where
  pub run_same : (u : Id) → is_open trace u ≡ true → run_of u trace ≡ run_by l u
  run_same u runs = λ i. serial (h.knows.schema i) (h.tables i) (h.vars u runs i) (h.done u runs i)

  kind_is : (u : Id) → kind_of u trace ≡ kind_noted (begun_in u l.state.units)
  kind_is u = kind_same trace u (begun_in u l.state.units) (h.knows.units u)

  -- an end
  rows_end : (u : Id) (e : End) → is_open trace u ≡ true → tables_after (told trace (event.Ended u e)) ≡ rows_by (event.Ended u e) l
  rows_end u (end.Committed n) runs = ap (λ (r : UnitRun). r.tables) (run_same u runs)
  rows_end u (end.Failed c) runs = h.tables
  rows_end u (end.Branched n c) runs = branch (kind_of u trace)
    where
      branch : (o : Option UnitKind) → (branched (kept trace) n o).tables ≡ tables_made l.rows
      branch None = h.tables
      branch (Some kind) = h.tables
  rows_end u end.Cut runs = h.tables
  rows_end u end.RolledBack runs = h.tables
  rows_end u end.Victim runs = h.tables

  abbrev defined_in : List ProgramDef → Option Cont → Option ProgramDef
  defined_in catalogue o = option_and_then (λ (c : Cont). program_named catalogue c.program) o

  -- the program of a continuation, and its tries
  program_same : (b : Id) → defined_in (programs_of (kept trace)) (cont_of b (kept trace)) ≡ program_by l.state.catalogue l.state.conts b
  program_same b = (λ i. defined_in (h.knows.programs i) (cont_in b (h.conts i))) ∙ ap (defined_in l.state.catalogue) (sym (cont_in-find b l.state.conts))

  left_same : (b : Id) → tries_left b (kept trace) ≡ tries_of (cont_named b l.state.conts)
  left_same b = tries_same (cont_of b (kept trace)) ∙ (λ i. tries_of (cont_in b (h.conts i))) ∙ ap tries_of (sym (cont_in-find b l.state.conts))

  vars_same : (kind : UnitKind) → vars_of_kind (kept trace) kind ≡ vars_begun l.state.catalogue l.state.conts kind
  vars_same (Acid session) = refl
  vars_same (Call session n args) =
      called_same args (program_named (programs_of (kept trace)) n) ∙ ap (λ (ps : List ProgramDef). vars_called args (program_named ps n)) h.knows.programs
  vars_same (First session b n args) =
      called_same args (program_named (programs_of (kept trace)) n) ∙ ap (λ (ps : List ProgramDef). vars_called args (program_named ps n)) h.knows.programs
  vars_same (Later b part) =
      going_same (programs_of (kept trace)) (cont_of b (kept trace))
      ∙ (λ i. vars_going (h.knows.programs i) (cont_in b (h.conts i)))
      ∙ ap (vars_going l.state.catalogue) (sym (cont_in-find b l.state.conts))

  kept_same : (n : ℕ) (vars : List Binding) (kind : UnitKind) → conts_committed (kept trace) n kind vars ≡ conts_kept l.state.catalogue n vars kind l.state.conts
  kept_same n vars (Acid session) = h.conts
  kept_same n vars (Call session name args) = h.conts
  kept_same n vars (First session b name args) =
      begun_same b n args vars (program_named (programs_of (kept trace)) name) (kept trace).conts
      ∙ (λ i. begun_with b n args vars (program_named (h.knows.programs i) name) (h.conts i))
  kept_same n vars (Later b part) =
      moved_same b part vars (defined_in (programs_of (kept trace)) (cont_of b (kept trace))) (kept trace).conts
      ∙ (λ i. moved_with b part vars (program_same b i) (h.conts i))

  noted_same : (n : ℕ) (vars : List Binding) (o : Option Begun) → conts_at (kept trace) n (kind_noted o) vars ≡ conts_noted l.state.catalogue n vars o l.state.conts
  noted_same n vars None = h.conts
  noted_same n vars (Some unit) = kept_same n vars unit.kind

  branched_same : (kind : UnitKind) → conts_branched (kept trace) kind ≡ branched_by l.state.catalogue kind l.state.conts
  branched_same (Acid session) = h.conts
  branched_same (Call session name args) = h.conts
  branched_same (First session b name args) = h.conts
  branched_same (Later b part) =
      failed_same b part (defined_in (programs_of (kept trace)) (cont_of b (kept trace))) (tries_left b (kept trace)) (kept trace).conts
      ∙ (λ i. moved_by b (way_behind true part (left_same b i)) (program_same b i) (h.conts i))

  failed_noted : (n : ℕ) (c : Cause) (o : Option Begun) →
      (branched (kept trace) n (kind_noted o)).conts ≡ conts_ended l.state.catalogue (end.Branched n c) o l.state.conts
  failed_noted n c None = h.conts
  failed_noted n c (Some unit) = branched_same unit.kind

  conts_end : (u : Id) (e : End) → is_open trace u ≡ true → (kept (told trace (event.Ended u e))).conts ≡ conts_after (event.Ended u e) l
  conts_end u (end.Committed n) runs =
      (λ i. conts_at (kept trace) n (kind_is u i) (run_same u runs i).vars) ∙ noted_same n (run_by l u).vars (begun_in u l.state.units)
  conts_end u (end.Failed c) runs = h.conts
  conts_end u (end.Branched n c) runs =
      ap (λ (o : Option UnitKind). (branched (kept trace) n o).conts) (kind_is u) ∙ failed_noted n c (begun_in u l.state.units)
  conts_end u end.Cut runs = h.conts
  conts_end u end.RolledBack runs = h.conts
  conts_end u end.Victim runs = h.conts

  rows_on : (e : Event) → is_formed_by trace e ≡ true → tables_after (told trace e) ≡ rows_by e l
  rows_on (event.Ended u e) f = rows_end u e (ends_open trace u e f)
  rows_on (event.Began u k) f = h.tables
  rows_on (event.Did u st a) f = h.tables
  rows_on (event.Waits u os) f = h.tables
  rows_on (event.Accepted b) f = h.tables
  rows_on (event.Finished b) f = h.tables
  rows_on (event.Released bs) f = h.tables
  rows_on (event.Early bs) f = h.tables
  rows_on (event.Down w) f = h.tables
  rows_on (event.Opened boot n) f = h.tables
  rows_on event.Ready f = h.tables
  rows_on (event.Defined n text) f = h.tables
  rows_on (event.Refused r) f = h.tables
  rows_on (event.Armed pairs) f = h.tables
  rows_on (event.Shown items) f = h.tables

  conts_on : (e : Event) → is_formed_by trace e ≡ true → (kept (told trace e)).conts ≡ conts_after e l
  conts_on (event.Ended u e) f = conts_end u e (ends_open trace u e f)
  conts_on (event.Began u k) f = h.conts
  conts_on (event.Did u st a) f = h.conts
  conts_on (event.Waits u os) f = h.conts
  conts_on (event.Accepted b) f = h.conts
  conts_on (event.Finished b) f = h.conts
  conts_on (event.Released bs) f = h.conts
  conts_on (event.Early bs) f = h.conts
  conts_on (event.Down w) f = h.conts
  conts_on (event.Opened boot n) f = h.conts
  conts_on event.Ready f = h.conts
  conts_on (event.Defined n text) f = h.conts
  conts_on (event.Refused r) f = h.conts
  conts_on (event.Armed pairs) f = h.conts
  conts_on (event.Shown items) f = h.conts

  order_on : (e : Event) → units_begun (told trace e) ≡ order_by e l.order
  order_on (event.Began u k) = ap (λ (us : List Id). us ++ u ∷ []) h.order
  order_on (event.Did u st a) = h.order
  order_on (event.Ended u e) = h.order
  order_on (event.Waits u os) = h.order
  order_on (event.Accepted b) = h.order
  order_on (event.Finished b) = h.order
  order_on (event.Released bs) = h.order
  order_on (event.Early bs) = h.order
  order_on (event.Down w) = h.order
  order_on (event.Opened boot n) = h.order
  order_on event.Ready = h.order
  order_on (event.Defined n text) = h.order
  order_on (event.Refused r) = h.order
  order_on (event.Armed pairs) = h.order
  order_on (event.Shown items) = h.order

  -- what a unit has done
  still : (u : Id) (t : Trace) → is_open t u ≡ is_open trace u → vars_of u t ≡ vars_of u trace → done_of u t ≡ done_of u trace → answers_of u t ≡ answers_of u trace →
      Tells u t (act_in u l.acts)
  still u t stands vars done answers = record {
    vars = λ runs. vars ∙ h.vars u (sym stands ∙ runs);
    done = λ runs. done ∙ h.done u (sym stands ∙ runs);
    answers = λ runs. answers ∙ h.answers u (sym stands ∙ runs);
  }

  begins : (u v : Id) (kind : UnitKind) (t : Bool) → is_same_id u v ≡ t →
      Tells u (told trace (event.Began v kind)) (if t then Some (fresh (vars_begun l.state.catalogue l.state.conts kind)) else act_in u l.acts)
  begins u v kind true same = record { vars = λ runs. rw same (vars_same kind); done = λ runs. rw same refl; answers = λ runs. rw same refl }
  begins u v kind false other =
      still u (told trace (event.Began v kind)) (rw other refl) (rw other refl) (rw other refl) (rw other refl)

  does : (u v : Id) (st : Statement) (a : Answer) → is_open trace v ≡ true → (t : Bool) → is_same_id u v ≡ t →
      Tells u (told trace (event.Did v st a)) (if t then Some (one_more st a (act_in v l.acts)) else act_in u l.acts)
  does u v st a runs true same =
      let is : u ≡ v = id_is u v same in
      let here : is_open trace u ≡ true = ap (is_open trace) is ∙ runs in
      record {
        vars = λ now. h.vars u here ∙ ap (λ (w : Id). vars_in (act_in w l.acts)) is;
        done = λ now. rw same (ap (λ (sts : List Statement). sts ++ st ∷ []) (h.done u here ∙ ap (λ (w : Id). done_in (act_in w l.acts)) is));
        answers = λ now. rw same (ap (λ (as_ : List Answer). as_ ++ a ∷ []) (h.answers u here ∙ ap (λ (w : Id). answers_in (act_in w l.acts)) is));
      }
  does u v st a runs false other = still u (told trace (event.Did v st a)) (rw other refl) refl (rw other refl) (rw other refl)

  ends : (u v : Id) (e : End) (t : Bool) → is_same_id u v ≡ t → Tells u (told trace (event.Ended v e)) (if t then None else act_in u l.acts)
  ends u v e true same =
      let closed : is_open (told trace (event.Ended v e)) u ≡ false = rw same refl in
      record {
        vars = λ runs. absurd (true≢false (sym runs ∙ closed));
        done = λ runs. absurd (true≢false (sym runs ∙ closed));
        answers = λ runs. absurd (true≢false (sym runs ∙ closed));
      }
  ends u v e false other = still u (told trace (event.Ended v e)) (rw other refl) refl refl refl

  waits : (u v : Id) (os : List Owner) → is_open trace v ≡ true → (t : Bool) → is_same_id u v ≡ t → is_open (told trace (event.Waits v os)) u ≡ is_open trace u
  waits u v os runs true same = rw same (sym (ap (is_open trace) (id_is u v same) ∙ runs))
  waits u v os runs false other = rw other refl

  acts_on : (e : Event) → is_formed_by trace e ≡ true → (u : Id) → Tells u (told trace e) (act_by e l.state l.acts u)
  acts_on (event.Began v kind) f u = begins u v kind (is_same_id u v) refl
  acts_on (event.Did v st a) f u = does u v st a (does_open trace v st a f) (is_same_id u v) refl
  acts_on (event.Ended v e) f u = ends u v e (is_same_id u v) refl
  acts_on (event.Waits v os) f u =
      still u (told trace (event.Waits v os)) (waits u v os (may (has_opened trace) (is_open trace v) f) (is_same_id u v) refl) refl refl refl
  acts_on (event.Accepted b) f u = still u (told trace (event.Accepted b)) refl refl refl refl
  acts_on (event.Finished b) f u = still u (told trace (event.Finished b)) refl refl refl refl
  acts_on (event.Released bs) f u = still u (told trace (event.Released bs)) refl refl refl refl
  acts_on (event.Early bs) f u = still u (told trace (event.Early bs)) refl refl refl refl
  acts_on (event.Down w) f u = still u (told trace (event.Down w)) refl refl refl refl
  acts_on (event.Opened boot n) f u = still u (told trace (event.Opened boot n)) refl refl refl refl
  acts_on event.Ready f u = still u (told trace event.Ready) refl refl refl refl
  acts_on (event.Defined n text) f u = still u (told trace (event.Defined n text)) refl refl refl refl
  acts_on (event.Refused r) f u = still u (told trace (event.Refused r)) refl refl refl refl
  acts_on (event.Armed pairs) f u = still u (told trace (event.Armed pairs)) refl refl refl refl
  acts_on (event.Shown items) f u = still u (told trace (event.Shown items)) refl refl refl refl

  -- the state knows where programs go on exactly
  knows_on : (t : State) (e : Event) (cs : List Cont) → Knows (record t { conts = cs }) (told trace e) → (kept (told trace e)).conts ≡ t.conts → Knows t (told trace e)
  knows_on t e cs k is = record {
    opened = k.opened;
    schema = k.schema;
    programs = k.programs;
    conts = ap (map stand_of) is;
    units = k.units;
    bases = k.bases;
    accepted = k.accepted;
    finished = k.finished;
  }

  active_on : (e : Event) → is_formed_by trace e ≡ true → open_units (told trace e) ≡ active_by e l.active.items
  active_on e f = open_units_on trace e f ∙ ap (active_by e) h.active

  pub holds_on : (m : Ledger) (e : Event) → is_formed_by trace e ≡ true → Knows (record m.state { conts = conts_by e l.state }) (told trace e) → IsAfter l m e → HoldsTrace m (told trace e)
  holds_on m e f knows after =
      let conts : (kept (told trace e)).conts ≡ m.state.conts = conts_on e f ∙ sym after.conts in
      record {
        knows = knows_on m.state e (conts_by e l.state) knows conts;
        tables = rows_on e f ∙ sym after.rows;
        conts = conts;
        vars = λ u runs. (acts_on e f u).vars runs ∙ ap vars_in (sym (after.acts u));
        done = λ u runs. (acts_on e f u).done runs ∙ ap done_in (sym (after.acts u));
        answers = λ u runs. (acts_on e f u).answers runs ∙ ap answers_in (sym (after.acts u));
        order = order_on e ∙ sym after.order;
        active = active_on e f ∙ sym after.active;
      }
