-- A state behind an event knows what the trace with it tells.
use Rattle.salt_ast.specs.Paths.{next_on_commit, next_on_failure}
use Rattle.law_definitions.specs.Texts.{definition_in}
use Rattle.salt_ast.specs.ProgramJudgement.{program_named}
use Rattle.salt_ast.specs.declared.programs.ProgramDef.{ProgramDef}
use Rattle.salt_ast.specs.declared.trees.Statement.{Statement}
use Rattle.salt_audit.proofs.Amiss.{both_true, id_is}
use Rattle.salt_audit.proofs.Naming.{branched_same, tables_app}
use Rattle.salt_audit.proofs.Stands.{same_begun, same_moved, same_program, same_tries}
use Rattle.salt_audit.specs.Formed.{block_of, is_formed_by, may_define, may_do}
use Rattle.salt_audit.specs.Knowing.{Knows, TellsUnit, stand_of}
use Rattle.salt_audit.specs.Retelling.{defining, told}
use Rattle.salt_audit.specs.Standing.{begun_in, cont_named}
use Rattle.salt_audit.specs.Telling.{IsBehind, accepted_by, bases_by, begins_as, block_by, branched_by, committed_by, conts_by, conts_ended, finished_by, first_by, moved_by}
use Rattle.salt_audit.specs.Telling.{one_more, opened_by, over, program_by, programs_by, schema_by, tries_of, unit_by, with_base, with_program, with_table}
use Rattle.salt_audit.specs.declared.state.Begun.{Begun}
use Rattle.salt_audit.specs.declared.state.State.{State}
use Rattle.salt_model.specs.After.{branched, conts_at, kept, run_of}
use Rattle.salt_model.specs.Kept.{Definition, Kept, OfProgram, OfTable, begun_cont, block_of_kind, block_of_part, cont_of, conts_branched, conts_committed, kept_program, moved, program_of_definition, programs_of, schema_of, tries_left, values_kept, parts_of}
use Rattle.salt_model.specs.Phases.{has_opened}
use Rattle.salt_model.specs.Programs.{accepted_in, finished_in, programs_in}
use Rattle.salt_model.specs.Trace.{Trace, ◌says◌}
use Rattle.salt_model.specs.Units.{done_of, is_open, kind_of, program_of_kind}
use Rattle.salt_model.specs.declared.events.Answer.{Answer}
use Rattle.salt_model.specs.declared.events.Cause.{Cause}
use Rattle.salt_model.specs.declared.events.End.TheVariants as end
use Rattle.salt_model.specs.declared.events.End.{End}
use Rattle.salt_model.specs.declared.events.Event.TheVariants as event
use Rattle.salt_model.specs.declared.events.Event.{Event}
use Rattle.salt_model.specs.declared.events.Owner.{Owner}
use Rattle.salt_model.specs.declared.events.UnitKind.TheVariants.{Acid, Call, First, Later}
use Rattle.salt_model.specs.declared.events.UnitKind.{UnitKind}
use Rattle.salt_model.specs.declared.vars.Binding.{Binding}
use Rattle.salt_values.specs.Id.{is_same_id}
use Rattle.salt_values.specs.declared.cont.Cont.{Cont}
use Rattle.salt_values.specs.declared.id.Id.{Id}
use Rattle.salt_values.specs.declared.value.Value.{Value}
use Rattle.std.proofs.Common.{Bool, List, None, Option, Some, [], ap, append-nil, false, if◌then◌else◌, is_none, length, map, option_and_then, option_map, refl, subst, sym, true, true≢false, ℕ, ◌&&◌, ◌+◌, ◌++◌, ◌∙◌, ◌∷◌, ◌≡◌}
use Rattle.std.proofs.lemmas.List.{length-append}
use Rattle.std.specs.List.{filter_map}

-- WHAT A FORMED EVENT GIVES

-- before the first opening nothing comes but it
pub came : (opened may : Bool) → (if opened then may else false) ≡ true → may ≡ true
came true may h = h
came false may h = absurd cc

pub none_is : {A : Type 0} (o : Option A) → is_none o ≡ true → o ≡ None
none_is None h = refl
none_is (Some x) h = absurd cc

-- DEFINITIONS

programs_app : (ds : List Definition) (d : Definition) →
    filter_map program_of_definition (ds ++ d ∷ []) ≡ filter_map program_of_definition ds ++ filter_map program_of_definition (d ∷ [])
programs_app [] d = refl
programs_app (OfTable t ∷ ds) d = programs_app ds d
programs_app (OfProgram p ∷ ds) d = ap (λ l. p ∷ l) (programs_app ds d)

programs_branched : (k : Kept) (n : ℕ) (kind : Option UnitKind) → programs_of (branched k n kind) ≡ programs_of k
programs_branched k n None = refl
programs_branched k n (Some kind) = refl

-- UNITS THAT AN EVENT LEAVES AS THEY WERE

-- the second trace tells of the unit what the first one does
record IsSame (a b : Trace) (u : Id) : Type 0 where
  kind : kind_of u b ≡ kind_of u a
  standing : is_open b u ≡ is_open a u
  block : block_of u b ≡ block_of u a
  done : length (done_of u b) ≡ length (done_of u a)

carried : (a b : Trace) (u : Id) (o : Option Begun) → IsSame a b u → TellsUnit a u o → TellsUnit b u o
carried a b u None same t = record { there = same.kind ∙ t.there; standing = same.standing ∙ t.standing }
carried a b u (Some n) same t =
    record { kind = same.kind ∙ t.kind; standing = same.standing ∙ t.standing; block = λ runs. same.block ∙ t.block (sym same.standing ∙ runs); done = same.done ∙ t.done }

module _ (s : State) (trace : Trace) (k : Knows s trace) where
  unit : (u : Id) → TellsUnit trace u (begun_in u s.units)
  unit u = k.units u

  -- BEGAN

  blocks : (kind : UnitKind) → block_of_kind (kept trace) kind ≡ block_by s.catalogue s.conts kind
  blocks (Acid x) = refl
  blocks (Call x n args) = rw k.programs refl
  blocks (First x b n args) = rw k.programs refl
  blocks (Later b part) =
      let f : List ℕ → Option (List Statement) = λ name. option_map (λ (p : ProgramDef). block_of_part p part) (program_named s.catalogue name) in
      ap (λ (l : List ProgramDef). option_and_then (λ (c : Cont). option_map (λ (p : ProgramDef). block_of_part p part) (program_named l c.program)) (cont_of b (kept trace))) k.programs
      ∙ same_program f b (kept trace).conts s.conts k.conts

  begins : (u v : Id) (kind : UnitKind) (t : Bool) → is_same_id u v ≡ t →
      TellsUnit (trace says event.Began v kind) u (if t then Some (begins_as s v kind) else begun_in u s.units)
  begins u v kind true same = record { kind = rw same refl; standing = rw same refl; block = λ runs. rw same (blocks kind); done = rw same refl }
  begins u v kind false other =
      carried trace (trace says event.Began v kind) u (begun_in u s.units)
      (record { kind = rw other refl; standing = rw other refl; block = rw other refl; done = rw other refl }) (unit u)

  -- DID

  does_more : (u v : Id) (st : Statement) (a : Answer) (o : Option Begun) → is_open trace u ≡ true → is_same_id u v ≡ true → TellsUnit trace u o →
      TellsUnit (trace says event.Did v st a) u (option_map one_more o)
  does_more u v st a None runs same t = absurd (true≢false (sym runs ∙ t.standing))
  does_more u v st a (Some n) runs same t =
      record {
        kind = t.kind;
        standing = rw same (sym runs ∙ t.standing);
        block = λ still. t.block runs;
        done = rw same (length-append (done_of u trace) (st ∷ []) ∙ ap (λ m. m + 1) t.done);
      }

  does : (u v : Id) (st : Statement) (a : Answer) (t : Bool) → is_open trace v ≡ true → is_same_id u v ≡ t →
      TellsUnit (trace says event.Did v st a) u (if t then option_map one_more (begun_in u s.units) else begun_in u s.units)
  does u v st a true runs same =
      does_more u v st a (begun_in u s.units) (ap (is_open trace) (id_is u v same) ∙ runs) same (unit u)
  does u v st a false runs other =
      carried trace (trace says event.Did v st a) u (begun_in u s.units)
      (record { kind = refl; standing = rw other refl; block = refl; done = rw other refl }) (unit u)

  -- WAITS

  waits : (u v : Id) (os : List Owner) (t : Bool) → is_open trace v ≡ true → is_same_id u v ≡ t → TellsUnit (trace says event.Waits v os) u (begun_in u s.units)
  waits u v os true runs same =
      carried trace (trace says event.Waits v os) u (begun_in u s.units)
      (record { kind = refl; standing = rw same (sym (ap (is_open trace) (id_is u v same) ∙ runs)); block = refl; done = refl }) (unit u)
  waits u v os false runs other =
      carried trace (trace says event.Waits v os) u (begun_in u s.units)
      (record { kind = refl; standing = rw other refl; block = refl; done = refl }) (unit u)

  -- ENDED

  ends_one : (u v : Id) (e : End) (o : Option Begun) → is_same_id u v ≡ true → TellsUnit trace u o → TellsUnit (trace says event.Ended v e) u (option_map over o)
  ends_one u v e None same t = record { there = t.there; standing = rw same refl }
  ends_one u v e (Some n) same t =
      let closed : is_open (trace says event.Ended v e) u ≡ false = rw same refl in
      record { kind = t.kind; standing = closed; block = λ runs. absurd (true≢false (sym runs ∙ closed)); done = t.done }

  ends : (u v : Id) (e : End) (t : Bool) → is_same_id u v ≡ t →
      TellsUnit (trace says event.Ended v e) u (if t then option_map over (begun_in u s.units) else begun_in u s.units)
  ends u v e true same = ends_one u v e (begun_in u s.units) same (unit u)
  ends u v e false other =
      carried trace (trace says event.Ended v e) u (begun_in u s.units)
      (record { kind = refl; standing = rw other refl; block = refl; done = refl }) (unit u)

  -- nothing of units is told
  same_units : (b : Trace) → ((u : Id) → IsSame trace b u) → (u : Id) → TellsUnit b u (begun_in u s.units)
  same_units b same u = carried trace b u (begun_in u s.units) (same u) (unit u)

  units_behind : (e : Event) → is_formed_by trace e ≡ true → (u : Id) → TellsUnit (told trace e) u (unit_by e s u)
  units_behind (event.Began v kind) f u = begins u v kind (is_same_id u v) refl
  units_behind (event.Did v st a) f u =
      does u v st a (is_same_id u v) (both_true (is_open trace v) (may_do trace v st (kind_of v trace)) (came (has_opened trace) (is_open trace v && may_do trace v st (kind_of v trace)) f)).0 refl
  units_behind (event.Waits v os) f u = waits u v os (is_same_id u v) (came (has_opened trace) (is_open trace v) f) refl
  units_behind (event.Ended v e) f u = ends u v e (is_same_id u v) refl
  units_behind (event.Accepted b) f u = same_units (trace says event.Accepted b) (λ w. record { kind = refl; standing = refl; block = refl; done = refl }) u
  units_behind (event.Finished b) f u = same_units (trace says event.Finished b) (λ w. record { kind = refl; standing = refl; block = refl; done = refl }) u
  units_behind (event.Released bs) f u = same_units (trace says event.Released bs) (λ w. record { kind = refl; standing = refl; block = refl; done = refl }) u
  units_behind (event.Down y) f u = same_units (trace says event.Down y) (λ w. record { kind = refl; standing = refl; block = refl; done = refl }) u
  units_behind (event.Opened boot n) f u = same_units (trace says event.Opened boot n) (λ w. record { kind = refl; standing = refl; block = refl; done = refl }) u
  units_behind event.Ready f u = same_units (trace says event.Ready) (λ w. record { kind = refl; standing = refl; block = refl; done = refl }) u
  units_behind (event.Early bs) f u = same_units (trace says event.Early bs) (λ w. record { kind = refl; standing = refl; block = refl; done = refl }) u
  units_behind (event.Defined n text) f u = same_units (told trace (event.Defined n text)) (λ w. record { kind = refl; standing = refl; block = refl; done = refl }) u
  units_behind (event.Refused r) f u = same_units (trace says event.Refused r) (λ w. record { kind = refl; standing = refl; block = refl; done = refl }) u
  units_behind (event.Armed pairs) f u = same_units (trace says event.Armed pairs) (λ w. record { kind = refl; standing = refl; block = refl; done = refl }) u
  units_behind (event.Shown items) f u = same_units (trace says event.Shown items) (λ w. record { kind = refl; standing = refl; block = refl; done = refl }) u

  -- DEFINED

  schema_defined : (n : ℕ) (text : List ℕ) (o : Option Definition) → may_define trace o ≡ true → schema_of (kept (defining trace n text o)) ≡ with_table o s.schema
  schema_defined n text None h = absurd cc
  schema_defined n text (Some (OfTable d)) h = tables_app (kept trace).definitions (OfTable d) ∙ ap (λ l. l ++ d ∷ []) k.schema
  schema_defined n text (Some (OfProgram p)) h = tables_app (kept trace).definitions (OfProgram p) ∙ append-nil (schema_of (kept trace)) ∙ k.schema

  programs_defined : (n : ℕ) (text : List ℕ) (o : Option Definition) → may_define trace o ≡ true → programs_of (kept (defining trace n text o)) ≡ with_program o s.catalogue
  programs_defined n text None h = absurd cc
  programs_defined n text (Some (OfTable d)) h = programs_app (kept trace).definitions (OfTable d) ∙ append-nil (programs_of (kept trace)) ∙ k.programs
  programs_defined n text (Some (OfProgram p)) h = programs_app (kept trace).definitions (OfProgram p) ∙ ap (λ l. l ++ p ∷ []) k.programs

  -- WHERE PROGRAMS GO ON

  first_same : (b : Id) (n : ℕ) (args : List Value) (vars : List Binding) (o : Option ProgramDef) →
      map stand_of (elim o as (λ _. List Cont) [ None ↦ (kept trace).conts | Some p ↦ begun_cont b n p args vars (next_on_commit (parts_of p) 1) (kept trace).conts ]) ≡ map stand_of (first_by b n args o s.conts)
  first_same b n args vars None = k.conts
  first_same b n args vars (Some p) = same_begun b n p args vars [] (next_on_commit (parts_of p) 1) (kept trace).conts s.conts k.conts

  goes_on : (b : Id) → option_and_then (λ (c : Cont). kept_program c.program (kept trace)) (cont_of b (kept trace)) ≡ program_by s.catalogue s.conts b
  goes_on b =
      ap (λ (l : List ProgramDef). option_and_then (λ (c : Cont). program_named l c.program) (cont_of b (kept trace))) k.programs
      ∙ same_program (program_named s.catalogue) b (kept trace).conts s.conts k.conts

  later_same : (b : Id) (part : ℕ) (vars : List Binding) (o : Option ProgramDef) →
      map stand_of (elim o as (λ _. List Cont) [ None ↦ (kept trace).conts | Some p ↦ moved b (next_on_commit (parts_of p) part) (λ c. record c { vars = values_kept p vars }) (kept trace).conts ])
      ≡ map stand_of (moved_by b (λ p. next_on_commit (parts_of p) part) o s.conts)
  later_same b part vars None = k.conts
  later_same b part vars (Some p) =
      same_moved b (next_on_commit (parts_of p) part) (λ c. record c { vars = values_kept p vars }) (λ c. c) (λ c. refl) (λ c. refl) (kept trace).conts s.conts k.conts

  branch_same : (b : Id) (part n : ℕ) (o : Option ProgramDef) →
      map stand_of (elim o as (λ _. List Cont) [ None ↦ (kept trace).conts | Some p ↦ moved b (next_on_failure (parts_of p) part n) (λ c. c) (kept trace).conts ]) ≡ map stand_of (moved_by b (λ p. next_on_failure (parts_of p) part n) o s.conts)
  branch_same b part n None = k.conts
  branch_same b part n (Some p) = same_moved b (next_on_failure (parts_of p) part n) (λ c. c) (λ c. c) (λ c. refl) (λ c. refl) (kept trace).conts s.conts k.conts

  commits : (n : ℕ) (kind : UnitKind) (vars : List Binding) → map stand_of (conts_committed (kept trace) n kind vars) ≡ map stand_of (committed_by s.catalogue n kind s.conts)
  commits n (Acid x) vars = k.conts
  commits n (Call x name args) vars = k.conts
  commits n (First x b name args) vars =
      ap (λ (l : List ProgramDef). map stand_of (elim (program_named l name) as (λ _. List Cont) [ None ↦ (kept trace).conts | Some p ↦ begun_cont b n p args vars (next_on_commit (parts_of p) 1) (kept trace).conts ])) k.programs
      ∙ first_same b n args vars (program_named s.catalogue name)
  commits n (Later b part) vars =
      ap (λ (o : Option ProgramDef). map stand_of (elim o as (λ _. List Cont)
      [ None ↦ (kept trace).conts | Some p ↦ moved b (next_on_commit (parts_of p) part) (λ c. record c { vars = values_kept p vars }) (kept trace).conts ])) (goes_on b)
      ∙ later_same b part vars (program_by s.catalogue s.conts b)

  branches : (kind : UnitKind) → map stand_of (conts_branched (kept trace) kind) ≡ map stand_of (branched_by s.catalogue kind s.conts)
  branches (Acid x) = k.conts
  branches (Call x name args) = k.conts
  branches (First x b name args) = k.conts
  branches (Later b part) =
      let tries : tries_left b (kept trace) ≡ tries_of (cont_named b s.conts) = same_tries b (kept trace).conts s.conts k.conts in
      ap (λ (o : Option ProgramDef). map stand_of (elim o as (λ _. List Cont)
      [ None ↦ (kept trace).conts | Some p ↦ moved b (next_on_failure (parts_of p) part (tries_left b (kept trace))) (λ c. c) (kept trace).conts ])) (goes_on b)
      ∙ ap (λ (n : ℕ). map stand_of (elim (program_by s.catalogue s.conts b) as (λ _. List Cont) [ None ↦ (kept trace).conts | Some p ↦ moved b (next_on_failure (parts_of p) part n) (λ c. c) (kept trace).conts ])) tries
      ∙ branch_same b part (tries_of (cont_named b s.conts)) (program_by s.catalogue s.conts b)

  committed_kind : (n : ℕ) (vars : List Binding) (u : Id) (o : Option Begun) → TellsUnit trace u o →
      map stand_of (conts_at (kept trace) n (kind_of u trace) vars) ≡ map stand_of (conts_ended s.catalogue (end.Committed n) o s.conts)
  committed_kind n vars u None t = ap (λ kind. map stand_of (conts_at (kept trace) n kind vars)) t.there ∙ k.conts
  committed_kind n vars u (Some unit) t = ap (λ kind. map stand_of (conts_at (kept trace) n kind vars)) t.kind ∙ commits n unit.kind vars

  branched_kind : (n : ℕ) (c : Cause) (u : Id) (o : Option Begun) → TellsUnit trace u o →
      map stand_of (branched (kept trace) n (kind_of u trace)).conts ≡ map stand_of (conts_ended s.catalogue (end.Branched n c) o s.conts)
  branched_kind n c u None t = ap (λ kind. map stand_of (branched (kept trace) n kind).conts) t.there ∙ k.conts
  branched_kind n c u (Some unit) t = ap (λ kind. map stand_of (branched (kept trace) n kind).conts) t.kind ∙ branches unit.kind

  -- EACH EVENT

  opened_behind : (e : Event) → has_opened (told trace e) ≡ opened_by e s.opened
  opened_behind (event.Opened boot n) = refl
  opened_behind (event.Defined n text) = k.opened
  opened_behind (event.Began v kind) = k.opened
  opened_behind (event.Did v st a) = k.opened
  opened_behind (event.Waits v os) = k.opened
  opened_behind (event.Ended v e) = k.opened
  opened_behind (event.Accepted b) = k.opened
  opened_behind (event.Finished b) = k.opened
  opened_behind (event.Released bs) = k.opened
  opened_behind (event.Down y) = k.opened
  opened_behind event.Ready = k.opened
  opened_behind (event.Early bs) = k.opened
  opened_behind (event.Refused r) = k.opened
  opened_behind (event.Armed pairs) = k.opened
  opened_behind (event.Shown items) = k.opened

  -- tables, programs and where programs go on
  record Tells (e : Event) : Type 0 where
    schema : schema_of (kept (told trace e)) ≡ schema_by e s.schema
    programs : programs_of (kept (told trace e)) ≡ programs_by e s.catalogue
    conts : map stand_of (kept (told trace e)).conts ≡ map stand_of (conts_by e s)

  kept_behind : (e : Event) → is_formed_by trace e ≡ true → Tells e
  kept_behind (event.Defined n text) f =
      let may = came (has_opened trace) (may_define trace (definition_in text)) f in
      record { schema = schema_defined n text (definition_in text) may; programs = programs_defined n text (definition_in text) may; conts = k.conts }
  kept_behind (event.Ended v (end.Committed n)) f =
      record { schema = k.schema; programs = k.programs; conts = committed_kind n (run_of v trace).vars v (begun_in v s.units) (unit v) }
  kept_behind (event.Ended v (end.Branched n c)) f = record {
    schema = branched_same (kept trace) n (kind_of v trace) ∙ k.schema;
    programs = programs_branched (kept trace) n (kind_of v trace) ∙ k.programs;
    conts = branched_kind n c v (begun_in v s.units) (unit v);
  }
  kept_behind (event.Ended v (end.Failed c)) f = record { schema = k.schema; programs = k.programs; conts = k.conts }
  kept_behind (event.Ended v end.RolledBack) f = record { schema = k.schema; programs = k.programs; conts = k.conts }
  kept_behind (event.Ended v end.Victim) f = record { schema = k.schema; programs = k.programs; conts = k.conts }
  kept_behind (event.Ended v end.Cut) f = record { schema = k.schema; programs = k.programs; conts = k.conts }
  kept_behind (event.Began v kind) f = record { schema = k.schema; programs = k.programs; conts = k.conts }
  kept_behind (event.Did v st a) f = record { schema = k.schema; programs = k.programs; conts = k.conts }
  kept_behind (event.Waits v os) f = record { schema = k.schema; programs = k.programs; conts = k.conts }
  kept_behind (event.Accepted b) f = record { schema = k.schema; programs = k.programs; conts = k.conts }
  kept_behind (event.Finished b) f = record { schema = k.schema; programs = k.programs; conts = k.conts }
  kept_behind (event.Released bs) f = record { schema = k.schema; programs = k.programs; conts = k.conts }
  kept_behind (event.Down y) f = record { schema = k.schema; programs = k.programs; conts = k.conts }
  kept_behind (event.Opened boot n) f = record { schema = k.schema; programs = k.programs; conts = k.conts }
  kept_behind event.Ready f = record { schema = k.schema; programs = k.programs; conts = k.conts }
  kept_behind (event.Early bs) f = record { schema = k.schema; programs = k.programs; conts = k.conts }
  kept_behind (event.Refused r) f = record { schema = k.schema; programs = k.programs; conts = k.conts }
  kept_behind (event.Armed pairs) f = record { schema = k.schema; programs = k.programs; conts = k.conts }
  kept_behind (event.Shown items) f = record { schema = k.schema; programs = k.programs; conts = k.conts }

  -- programs of which a unit has begun, that are accepted, that have finished
  record Names (e : Event) : Type 0 where
    bases : programs_in (told trace e) ≡ bases_by e s.bases
    accepted : accepted_in (told trace e) ≡ accepted_by e s.accepted
    finished : finished_in (told trace e) ≡ finished_by e s.finished

  bases_begun : (v : Id) (kind : UnitKind) → programs_in (trace says event.Began v kind) ≡ with_base (program_of_kind kind) s.bases
  bases_begun v (Acid x) = k.bases
  bases_begun v (Call x name args) = k.bases
  bases_begun v (First x b name args) = ap (λ l. l ++ b ∷ []) k.bases
  bases_begun v (Later b part) = ap (λ l. l ++ b ∷ []) k.bases

  names_behind : (e : Event) → Names e
  names_behind (event.Began v kind) = record { bases = bases_begun v kind; accepted = k.accepted; finished = k.finished }
  names_behind (event.Accepted b) = record { bases = k.bases; accepted = ap (λ l. l ++ b ∷ []) k.accepted; finished = k.finished }
  names_behind (event.Finished b) = record { bases = k.bases; accepted = k.accepted; finished = ap (λ l. l ++ b ∷ []) k.finished }
  names_behind (event.Did v st a) = record { bases = k.bases; accepted = k.accepted; finished = k.finished }
  names_behind (event.Waits v os) = record { bases = k.bases; accepted = k.accepted; finished = k.finished }
  names_behind (event.Ended v e) = record { bases = k.bases; accepted = k.accepted; finished = k.finished }
  names_behind (event.Released bs) = record { bases = k.bases; accepted = k.accepted; finished = k.finished }
  names_behind (event.Down y) = record { bases = k.bases; accepted = k.accepted; finished = k.finished }
  names_behind (event.Opened boot n) = record { bases = k.bases; accepted = k.accepted; finished = k.finished }
  names_behind event.Ready = record { bases = k.bases; accepted = k.accepted; finished = k.finished }
  names_behind (event.Early bs) = record { bases = k.bases; accepted = k.accepted; finished = k.finished }
  names_behind (event.Defined n text) = record { bases = k.bases; accepted = k.accepted; finished = k.finished }
  names_behind (event.Refused r) = record { bases = k.bases; accepted = k.accepted; finished = k.finished }
  names_behind (event.Armed pairs) = record { bases = k.bases; accepted = k.accepted; finished = k.finished }
  names_behind (event.Shown items) = record { bases = k.bases; accepted = k.accepted; finished = k.finished }

  pub goes_on_knowing : (t : State) (e : Event) → is_formed_by trace e ≡ true → IsBehind s t e → Knows t (told trace e)
  goes_on_knowing t e f b =
      let told_kept = kept_behind e f in
      let names = names_behind e in
      record {
        opened = opened_behind e ∙ sym b.opened;
        schema = told_kept.schema ∙ sym b.schema;
        programs = told_kept.programs ∙ sym b.programs;
        conts = told_kept.conts ∙ sym (ap (map stand_of) b.conts);
        units = λ u. subst (TellsUnit (told trace e) u) (sym (b.units u)) (units_behind e f u);
        bases = names.bases ∙ sym b.bases;
        accepted = names.accepted ∙ sym b.accepted;
        finished = names.finished ∙ sym b.finished;
      }
