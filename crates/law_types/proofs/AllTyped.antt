-- At each place of a played trace what is kept fits its definitions, and open units do what is of their types.
use Rattle.salt_ast.specs.Judgement.{bindings, statement_fault}
use Rattle.salt_ast.specs.declared.lines.Line.TheVariants.{Program, Table}
use Rattle.salt_ast.specs.declared.lines.Line.{Line}
use Rattle.salt_ast.specs.declared.trees.Statement.{Statement}
use Rattle.salt_ast.specs.ProgramJudgement.{program_named, session_scope}
use Rattle.law_story.proofs.Asking.{AllWait, IsOfAcid, all-wait}
use Rattle.law_story.proofs.Declares.{declared}
use Rattle.law_story.proofs.Every.{every-append, every-left, every-right}
use Rattle.law_story.proofs.Fresh.{IfComes}
use Rattle.law_story.proofs.Ids.{is_same_id-refl, is_same_id-true}
use Rattle.law_story.proofs.Lists.{In, either, into-filter}
use Rattle.law_story.proofs.NextFits.{Drains, Fits, Flies}
use Rattle.law_story.proofs.Upheld.{Upheld, holds, may-fit}
use Rattle.law_story.proofs.Sound.{Sound, cont-stays, kind-in, of-program, open-back}
use Rattle.law_story.proofs.WellKept.{of-start}
use Rattle.salt_model.specs.After.{branched, committed, defined_by, keep, kept, run_of, stage, vars_of}
use Rattle.salt_model.specs.AsDeclared.{DoesDeclared, IsDeclaredBy}
use Rattle.salt_model.specs.Ends.{kept_with}
use Rattle.salt_model.specs.Everywhere.{Each}
use Rattle.salt_model.specs.Kept.{Definition, Kept, WellKept, block_of_kind, cont_of, program_of_definition, schema_of, table_of_definition, vars_of_kind}
use Rattle.salt_model.specs.Next.{flight, next}
use Rattle.salt_model.specs.Phases.{phase}
use Rattle.salt_model.specs.Played.{IsPlayed}
use Rattle.salt_model.specs.Segments.{May}
use Rattle.salt_model.specs.Trace.{Trace, from, line_of, lines_asked, start_of, ◌asks◌, ◌says◌, ◌turns◌}
use Rattle.salt_model.specs.Units.{Never, Over, Running, Standing, Waiting, done_of, is_open, is_open_standing, is_waiting, is_waiting_standing, kind_of, line_waited, open_units, program_of, program_of_kind, standing, units_begun}
use Rattle.salt_model.specs.Waiting.{statement_of_line}
use Rattle.salt_model.specs.Words.{Every}
use Rattle.salt_model.specs.declared.events.End.TheVariants.{Branched, Committed}
use Rattle.salt_model.specs.declared.events.End.{End}
use Rattle.salt_model.specs.declared.events.Event.TheVariants.{Began, Defined, Did, Down, Ended, Opened, Waits}
use Rattle.salt_model.specs.declared.events.Event.{Event}
use Rattle.salt_model.specs.declared.events.UnitKind.TheVariants as kind
use Rattle.salt_model.specs.declared.events.UnitKind.{UnitKind}
use Rattle.salt_model.specs.declared.vars.Binding.{Binding}
use Rattle.law_types.proofs.Blocks.{block-judged}
use Rattle.law_types.proofs.Coming.{Flying, IsDefinable, IsJudgedNow, IsLineJudged, IsReady, WaitJudged, flying-down, flying-next, ready-asks, ready-go, ready-opened, ready-said}
use Rattle.law_types.proofs.Conts.{begins-typed, branched-typed, committed-typed, scope-apart}
use Rattle.law_types.proofs.Defining.{program-defined, table-defined}
use Rattle.law_types.proofs.Runs.{serial-typed}
use Rattle.law_types.specs.Played.{HasKey, IsJudgedEvent, IsTypedAt}
use Rattle.law_types.specs.Typed.{AreVariables, IsJudgedFor, IsKindFor, IsTyped, IsTypedRun, scope_of_kind, scope_of_program}
use Rattle.salt_values.specs.Id.{is_same_id}
use Rattle.salt_values.specs.declared.cont.Cont.{Cont}
use Rattle.salt_values.specs.declared.id.Id.{Id}
use Rattle.std.proofs.Common.{ap, append-nil, subst, sym, ◌∙◌}
use Rattle.std.specs.Bool.{then_some}
use Rattle.std.specs.List.{filter_map}
use Rattle.std.specs.Option.{option_or}
use Rattle.std.specs.Prelude.{Bool, IfSome, List, None, Option, Some, [], cond, false, is_some, length, option_and_then, option_map, refl, slice_get, suc, true, zero, ℕ, ⊤, ◌++◌, ◌∷◌, ◌≡◌}

-- a unit of this kind that began with these variables and has done these statements
pub record IsDoing (k : Kept) (x : UnitKind) (bs : List Binding) (sts : List Statement) : Type 0 where
  pub kind : IsKindFor k x
  pub vars : AreVariables (bindings (scope_of_kind k x)) bs
  pub judged : Every (IsJudgedFor k x) sts

-- by the definitions and the program's continuation alone

abbrev LaterDoing : List Definition → Option Cont → ℕ → List Binding → List Statement → Type 0
LaterDoing ds o part vars done =
    (option_map (λ (c : Cont). c.next) o ≡ Some part)
    × AreVariables (bindings (scope_of_program (option_and_then (λ (c : Cont). program_named (filter_map program_of_definition ds) c.program) o))) vars
    × Every (λ (st : Statement). statement_fault (filter_map table_of_definition ds) (scope_of_program (option_and_then (λ (c : Cont). program_named (filter_map program_of_definition ds) c.program) o)) st ≡ None) done

abbrev IsLaterAlike : Kept → Kept → UnitKind → Type 0
IsLaterAlike k new (kind.Later b part) = cont_of b k ≡ cont_of b new
IsLaterAlike k new x = ⊤

abbrev Told : List Definition → UnitKind → List Binding → List Statement → Kept → Type 0
Told ds x vars done k = IsKindFor (record k { definitions = ds }) x × AreVariables (bindings (scope_of_kind (record k { definitions = ds }) x)) vars × Every (IsJudgedFor (record k { definitions = ds }) x) done

doing-moves : (k new : Kept) (x : UnitKind) (vars : List Binding) (done : List Statement) → k.definitions ≡ new.definitions → IsLaterAlike k new x → IsDoing k x vars done → IsDoing new x vars done
doing-moves k new (kind.Acid s) vars done e c h =
    let r = subst (λ ds. Told ds (kind.Acid s) vars done k) e (h.kind, h.vars, h.judged) in
    record { kind = r.0; vars = r.1; judged = r.2 }
doing-moves k new (kind.Call s n args) vars done e c h =
    let r = subst (λ ds. Told ds (kind.Call s n args) vars done k) e (h.kind, h.vars, h.judged) in
    record { kind = r.0; vars = r.1; judged = r.2 }
doing-moves k new (kind.First s b n args) vars done e c h =
    let r = subst (λ ds. Told ds (kind.First s b n args) vars done k) e (h.kind, h.vars, h.judged) in
    record { kind = r.0; vars = r.1; judged = r.2 }
doing-moves k new (kind.Later b part) vars done e c h =
    let with_cont : LaterDoing k.definitions (cont_of b new) part vars done = subst (λ o. LaterDoing k.definitions o part vars done) c (h.kind, h.vars, h.judged) in
    let r : LaterDoing new.definitions (cont_of b new) part vars done = subst (λ ds. LaterDoing ds (cont_of b new) part vars done) e with_cont in
    record { kind = r.0; vars = r.1; judged = r.2 }

-- WHAT HOLDS AT A PLACE

abbrev Doing : Trace → Type 0
Doing trace = (u : Id) (x : UnitKind) → is_open trace u ≡ true → kind_of u trace ≡ Some x → IsDoing (kept trace) x (vars_of u trace) (done_of u trace)

record AllTyped (trace : Trace) : Type 0 where
  typed : IsTyped (kept trace)
  doing : Doing trace
  waits : WaitJudged trace
  all : AllWait trace
  comes : IfComes (IsReady trace) (next trace)
  flying : Flying trace (flight trace)

ready-at : (trace : Trace) (e : Event) → IfComes (IsReady trace) (next trace) → May trace e → IsReady trace e
ready-at trace (Down why) c m = tt
ready-at trace (Opened boot n) c m = tt
ready-at trace e c m = subst (IfComes (IsReady trace)) m c

-- what a unit's statements gave
run-typed : (x : UnitKind) (trace : Trace) (u : Id) → IsTyped (kept trace) → IsDoing (kept trace) x (vars_of u trace) (done_of u trace) →
    IsTypedRun (schema_of (kept trace)) (bindings (scope_of_kind (kept trace) x)) (run_of u trace)
run-typed x trace u typed h =
    serial-typed (schema_of (kept trace)) (scope_of_kind (kept trace) x) typed.tables (scope-apart (kept trace) typed x) (kept trace).tables (vars_of u trace) (done_of u trace) h.judged typed.rows h.vars

-- WHAT IS KEPT

numbered : (k : Kept) (boot n : ℕ) → IsTyped k → IsTyped (record k { boot = boot; decisions = n })
numbered k boot n h = record { tables = h.tables; programs = h.programs; rows = h.rows; conts = h.conts }

-- where it is the end of a unit, that is open
abbrev IsOfOpen : Trace → Event → Type 0
IsOfOpen trace (Ended u end) = is_open trace u ≡ true
IsOfOpen trace e = ⊤

known-kind : (o : Option UnitKind) → is_some o ≡ true → (x : UnitKind) × (o ≡ Some x)
known-kind None h = absurd cc
known-kind (Some x) h = (x, refl)

with-line : (trace : Trace) (line : Line) → IsTyped (kept trace) → IsDefinable trace line → IsTyped (record (kept trace) { definitions = (kept trace).definitions ++ defined_by line })
with-line trace (Table d) typed h = table-defined (kept trace) typed d h.0 h.1
with-line trace (Program p) typed h = program-defined (kept trace) typed p h
with-line trace line typed h = subst (λ (ds : List Definition). IsTyped (record (kept trace) { definitions = ds })) (sym (append-nil (kept trace).definitions)) (numbered (kept trace) (kept trace).boot (kept trace).decisions typed)

keep-typed : (trace : Trace) (e : Event) → Sound trace → IsTyped (kept trace) → Doing trace → IsReady trace e → IsOfOpen trace e → IsTyped (keep trace e (stage trace))
keep-typed trace (Ended u (Committed n)) s typed doing g o =
    let x = known-kind (kind_of u trace) (s.known u o) in
    let h = doing u x.0 o x.1 in
    subst (λ (o : Option UnitKind). IsTyped (committed (kept trace) n o (run_of u trace))) (sym x.1) (committed-typed (kept trace) typed n x.0 (run_of u trace) h.kind (run-typed x.0 trace u typed h))
keep-typed trace (Ended u (Branched n c)) s typed doing g o =
    let x = known-kind (kind_of u trace) (s.known u o) in
    let h = doing u x.0 o x.1 in
    subst (λ (o : Option UnitKind). IsTyped (branched (kept trace) n o)) (sym x.1) (branched-typed (kept trace) typed n x.0 h.kind)
keep-typed trace (Defined n text) s typed doing g o = let h = with-line trace (line_of trace) typed g.0 in numbered _ (kept trace).boot n h
keep-typed trace (Opened boot n) s typed doing g o = numbered (kept trace) boot (kept trace).decisions typed
keep-typed trace e s typed doing g o = typed

-- definitions stay where a unit ends
definitions-stay : (trace : Trace) (v : Id) (end : End) → (kept trace).definitions ≡ (kept (trace says Ended v end)).definitions
definitions-stay trace v (Committed n) = refl
definitions-stay trace v (Branched n c) = by (kind_of v trace)
  where
    by : (o : Option UnitKind) → (kept trace).definitions ≡ (branched (kept trace) n o).definitions
    by None = refl
    by (Some x) = refl
definitions-stay trace v end = refl

-- OPEN UNITS

-- the event is of this statement, which this unit does
abbrev IsDidOf : Event → Id → Statement → Type 0
IsDidOf (Did u st a) v x = (u ≡ v) × (st ≡ x)
IsDidOf e v x = ⊥

in-block : (Q : Statement → Type 0) (block : List Statement) (n : ℕ) (st : Statement) → Every Q block → slice_get block n ≡ Some st → Q st
in-block Q [] n st h e = absurd cc
in-block Q (x ∷ block) zero st h e = let same : x ≡ st = cc in subst Q same h.0
in-block Q (x ∷ block) (suc n) st h e = in-block Q block n st h.1 e

of-block : (Q : Statement → Type 0) (o : Option (List Statement)) (done : List Statement) (st : Statement) → IfSome o (Every Q) →
    option_and_then (λ block. slice_get block (length done)) o ≡ Some st → Q st
of-block Q None done st h e = absurd cc
of-block Q (Some block) done st h e = in-block Q block (length done) st h e

-- a unit's statement is not refused
did-judged : (trace : Trace) (u : Id) (st : Statement) (x : UnitKind) → IsTyped (kept trace) → kind_of u trace ≡ Some x → ((s : ℕ) → IsOfAcid trace u s → IsJudgedNow trace st) →
    IsDeclaredBy trace u st (Some x) → IsJudgedFor (kept trace) x st
did-judged trace u st (kind.Acid s) typed k line d = line s k
did-judged trace u st (kind.Call s n args) typed k line d = of-block (IsJudgedFor (kept trace) (kind.Call s n args)) (block_of_kind (kept trace) (kind.Call s n args)) (done_of u trace) st (block-judged (kept trace) typed (kind.Call s n args)) d
did-judged trace u st (kind.First s b n args) typed k line d = of-block (IsJudgedFor (kept trace) (kind.First s b n args)) (block_of_kind (kept trace) (kind.First s b n args)) (done_of u trace) st (block-judged (kept trace) typed (kind.First s b n args)) d
did-judged trace u st (kind.Later b part) typed k line d = of-block (IsJudgedFor (kept trace) (kind.Later b part)) (block_of_kind (kept trace) (kind.Later b part)) (done_of u trace) st (block-judged (kept trace) typed (kind.Later b part)) d

none-listed : (trace : Trace) (u : Id) → Sound trace → is_open trace u ≡ true → open_units trace ≡ [] → ⊥
none-listed trace u s o e = subst (In u) e (into-filter (is_open trace) u (units_begun trace) (kind-in trace u (s.known u o)) o)

kind-for : (trace : Trace) (v : Id) (x : UnitKind) → Fits trace (Began v x) → IsReady trace (Began v x) → IsKindFor (kept trace) x
kind-for trace v (kind.Acid s) f g = tt
kind-for trace v (kind.Call s n args) f g = g
kind-for trace v (kind.First s b n args) f g = g
kind-for trace v (kind.Later b part) f g = f.2.1

doing-says : (trace : Trace) (e : Event) → Sound trace → Fits trace e → IsTyped (kept trace) → IsReady trace e → ((v : Id) (st : Statement) (x : UnitKind) → IsDidOf e v st → kind_of v trace ≡ Some x → IsJudgedFor (kept trace) x st) →
    Doing trace → Doing (trace says e)
doing-says trace (Began v y) s f typed g j h u x o k = by (is_same_id u v) o k
  where
    by : (t : Bool) → is_open_standing (cond t Running (standing u trace)) ≡ true → option_or (then_some t y) (kind_of u trace) ≡ Some x →
        IsDoing (kept trace) x (cond t (vars_of_kind (kept trace) y) (vars_of u trace)) (cond t [] (done_of u trace))
    by true o k =
        let same : y ≡ x = cc in
        let is = kind-for trace v y f g in
        subst (λ (z : UnitKind). IsDoing (kept trace) z (vars_of_kind (kept trace) y) []) same (record { kind = is; vars = begins-typed (kept trace) typed y is; judged = tt })
    by false o k = h u x o k
doing-says trace (Did v st a) s f typed g j h u x o k = by (is_same_id u v) refl o
  where
    by : (t : Bool) → is_same_id u v ≡ t → is_open_standing (cond t Running (standing u trace)) ≡ true →
        IsDoing (kept trace) x (vars_of u trace) (cond t (done_of u trace ++ st ∷ []) (done_of u trace))
    by true e o =
        let same = is_same_id-true u v e in
        let old = h u x (subst (λ w. is_open trace w ≡ true) (sym same) f.0) k in
        record { kind = old.kind; vars = old.vars; judged = every-append (IsJudgedFor (kept trace) x) (done_of u trace) (st ∷ []) old.judged (j v st x (refl, refl) (subst (λ w. kind_of w trace ≡ Some x) same k), tt) }
    by false e o = h u x o k
doing-says trace (Ended v end) s f typed g j h u x o k = by (is_same_id u v) refl o
  where
    alike : (x : UnitKind) → kind_of u trace ≡ Some x → is_same_id u v ≡ false → is_open trace u ≡ true → IsLaterAlike (kept trace) (kept (trace says Ended v end)) x
    alike (kind.Acid t) k e o = tt
    alike (kind.Call t n args) k e o = tt
    alike (kind.First t b n args) k e o = tt
    alike (kind.Later b part) k e o = sym (cont-stays trace v end b other)
      where
        other : program_of v trace ≡ Some b → ⊥
        other q =
            let own : program_of u trace ≡ Some b = ap (option_and_then program_of_kind) k in
            let same : u ≡ v = s.one b u v o f.0 (of-program trace u b own) (of-program trace v b q) in
            let x : true ≡ false = sym (is_same_id-refl v) ∙ subst (λ x. is_same_id x v ≡ false) same e in
            cc

    by : (t : Bool) → is_same_id u v ≡ t → is_open_standing (cond t (Over end) (standing u trace)) ≡ true → IsDoing (kept (trace says Ended v end)) x (vars_of u trace) (done_of u trace)
    by true e o = absurd cc
    by false e o = doing-moves (kept trace) (kept (trace says Ended v end)) x (vars_of u trace) (done_of u trace) (definitions-stay trace v end) (alike x k e o) (h u x o k)
doing-says trace (Defined n text) s f typed g j h u x o k = absurd (none-listed trace u s o g.1)
doing-says trace (Opened boot n) s f typed g j h u x o k = doing-moves (kept trace) (kept (trace says Opened boot n)) x (vars_of u trace) (done_of u trace) refl (alike x) (h u x o k)
  where
    alike : (x : UnitKind) → IsLaterAlike (kept trace) (kept (trace says Opened boot n)) x
    alike (kind.Acid t) = tt
    alike (kind.Call t m args) = tt
    alike (kind.First t b m args) = tt
    alike (kind.Later b part) = refl
doing-says trace e s f typed g j h u x o k = h u x (either (λ q. q) (λ q. absurd q) (open-back trace e u f o)) k

-- WAITING UNITS

waiting-open : (trace : Trace) (u : Id) → is_waiting trace u ≡ true → is_open trace u ≡ true
waiting-open trace u h = by (standing u trace) h
  where
    by : (x : Standing) → is_waiting_standing x ≡ true → is_open_standing x ≡ true
    by Waiting h = refl
    by Never h = absurd cc
    by Running h = absurd cc
    by (Over e) h = absurd cc

line-moves : (k new : Kept) (o : Option Statement) → k.definitions ≡ new.definitions → IfSome o (λ st. statement_fault (schema_of k) session_scope st ≡ None) →
    IfSome o (λ st. statement_fault (schema_of new) session_scope st ≡ None)
line-moves k new None e h = tt
line-moves k new (Some st) e h = subst (λ ds. statement_fault (filter_map table_of_definition ds) session_scope st ≡ None) e h

waits-says : (trace : Trace) (e : Event) → Sound trace → IsReady trace e → WaitJudged trace → WaitJudged (trace says e)
waits-says trace (Began v y) s g h u w t k = by (is_same_id u v) w k
  where
    by : (b : Bool) → is_waiting_standing (cond b Running (standing u trace)) ≡ true → option_or (then_some b y) (kind_of u trace) ≡ Some (kind.Acid t) → IsLineJudged trace (line_waited u trace)
    by true w k = absurd cc
    by false w k = h u w t k
waits-says trace (Did v st a) s g h u w t k = by (is_same_id u v) w
  where
    by : (b : Bool) → is_waiting_standing (cond b Running (standing u trace)) ≡ true → IsLineJudged trace (line_waited u trace)
    by true w = absurd cc
    by false w = h u w t k
waits-says trace (Waits v owners) s g h u w t k = by (is_same_id u v) refl w
  where
    by : (b : Bool) → is_same_id u v ≡ b → is_waiting_standing (cond b Waiting (standing u trace)) ≡ true → IsLineJudged trace (cond b (line_of trace) (line_waited u trace))
    by true e w = g t (subst (λ z. kind_of z trace ≡ Some (kind.Acid t)) (is_same_id-true u v e) k)
    by false e w = h u w t k
waits-says trace (Ended v end) s g h u w t k = by (is_same_id u v) w
  where
    by : (b : Bool) → is_waiting_standing (cond b (Over end) (standing u trace)) ≡ true → IsLineJudged (trace says Ended v end) (line_waited u trace)
    by true w = absurd cc
    by false w = line-moves (kept trace) (kept (trace says Ended v end)) (statement_of_line (line_waited u trace)) (definitions-stay trace v end) (h u w t k)
waits-says trace (Defined n text) s g h u w t k = absurd (none-listed trace u s (waiting-open trace u w) g.1)
waits-says trace e s g h u w t k = h u w t k

-- EACH EVENT does what is judged

did-at : (trace : Trace) (e : Event) → IsTyped (kept trace) → IsReady trace e → DoesDeclared trace e → (v : Id) (st : Statement) (x : UnitKind) → IsDidOf e v st → kind_of v trace ≡ Some x → IsJudgedFor (kept trace) x st
did-at trace (Did u y a) typed g d v st x same k =
    let own : kind_of u trace ≡ Some x = subst (λ w. kind_of w trace ≡ Some x) (sym same.0) k in
    subst (IsJudgedFor (kept trace) x) same.1 (did-judged trace u y x typed own g (subst (IsDeclaredBy trace u y) own d))
did-at trace e typed g d v st x same k = absurd same

event-judged : (trace : Trace) (e : Event) → IsTyped (kept trace) → Fits trace e → IsReady trace e → DoesDeclared trace e → IsJudgedEvent trace e
event-judged trace (Began u x) typed f g d = kind-for trace u x f g
event-judged trace (Did u st a) typed f g d = λ x k. did-at trace (Did u st a) typed g d u st x (refl, refl) k
event-judged trace e typed f g d = tt

-- ALL OF IT

coming : (trace : Trace) (e : Event) → IsReady trace e → WaitJudged (trace says e) → AllWait (trace says e) → Drains (trace says e) → Flying trace (flight trace) →
    IfComes (IsReady (trace says e)) (next (trace says e)) × Flying (trace says e) (flight (trace says e))
coming trace (Down why) g w all d f = (tt, flying-down trace why (flight trace) f)
coming trace (Opened boot n) g w all d f =
    let x = ready-opened trace boot n (flight trace) f in
    (x, flying-next (trace says Opened boot n) (next (trace says Opened boot n)) x)
coming trace e g w all d f =
    let x = ready-said trace e g w all d (phase (trace says e)) refl in
    (x, flying-next (trace says e) (next (trace says e)) x)

fits-open : (trace : Trace) (e : Event) → Fits trace e → IsOfOpen trace e
fits-open trace (Ended u end) f = f.0
fits-open trace e f = tt

declares : (trace : Trace) (e : Event) → IsPlayed (trace says e) → WellKept (start_of trace).kept → DoesDeclared trace e
declares trace e p well = (declared (trace says e) p (of-start (start_of trace).kept well) well.defined).1

all-says : (trace : Trace) (e : Event) → IsPlayed (trace says e) → WellKept (start_of trace).kept → AllTyped trace → AllTyped (trace says e) × IsJudgedEvent trace e
all-says trace e p well a =
    let w = of-start (start_of trace).kept well in
    let h = holds trace p.0 w in
    let f = may-fit trace e h.comes p.1 in
    let g = ready-at trace e a.comes p.1 in
    let d = declares trace e p well in
    let waits = waits-says trace e h.sound g a.waits in
    let all = all-wait trace e h.sound f a.all in
    let x = coming trace e g waits all (holds (trace says e) p w).sound.drains a.flying in (
      record {
        typed = keep-typed trace e h.sound a.typed a.doing g (fits-open trace e f);
        doing = doing-says trace e h.sound f a.typed g (did-at trace e a.typed g d) a.doing;
        waits = waits;
        all = all;
        comes = x.0;
        flying = x.1;
      },
      event-judged trace e a.typed f g d,
    )

all-typed : (trace : Trace) → IsPlayed trace → WellKept (start_of trace).kept → IsTyped (start_of trace).kept → Every HasKey (lines_asked trace) → AllTyped trace
all-typed (from k) p well typed keys = record { typed = typed; doing = λ u x o. absurd cc; waits = λ u o. absurd cc; all = λ u i. absurd i; comes = tt; flying = tt }
all-typed (trace asks asked) p well typed keys =
    let a = all-typed trace p.0 well typed (every-left HasKey (lines_asked trace) (asked ∷ []) keys) in
    let x = ready-asks trace asked (every-right HasKey (lines_asked trace) (asked ∷ []) keys).0 a.waits in
    record { typed = a.typed; doing = a.doing; waits = a.waits; all = a.all; comes = x; flying = flying-next (trace asks asked) (next (trace asks asked)) x }
all-typed (trace turns b) p well typed keys =
    let a = all-typed trace p.0 well typed keys in
    let x = ready-go (trace turns b) b a.waits in
    record { typed = a.typed; doing = a.doing; waits = a.waits; all = a.all; comes = x; flying = flying-next (trace turns b) (next (trace turns b)) x }
all-typed (trace says e) p well typed keys = (all-says trace e p well (all-typed trace p.0 well typed keys)).0

pub typed-at : (trace : Trace) → IsPlayed trace → WellKept (start_of trace).kept → IsTyped (start_of trace).kept → Every HasKey (lines_asked trace) → IsTypedAt trace
typed-at trace p well typed keys =
    let a = all-typed trace p well typed keys in
    record { units = λ u x o k. record { kind = (a.doing u x o k).kind; run = run-typed x trace u a.typed (a.doing u x o k) }; kept = a.typed }

pub each-judged : (trace : Trace) → IsPlayed trace → WellKept (start_of trace).kept → IsTyped (start_of trace).kept → Every HasKey (lines_asked trace) → Each IsJudgedEvent trace
each-judged (from k) p well typed keys = tt
each-judged (trace asks asked) p well typed keys = each-judged trace p.0 well typed (every-left HasKey (lines_asked trace) (asked ∷ []) keys)
each-judged (trace turns b) p well typed keys = each-judged trace p.0 well typed keys
each-judged (trace says e) p well typed keys = (each-judged trace p.0 well typed keys, (all-says trace e p well (all-typed trace p.0 well typed keys)).1)

-- with the decision that is in flight

flies-open : (trace : Trace) (e : Event) → Flies trace e → IsOfOpen trace e
flies-open trace (Ended u (Committed n)) f = f.0
flies-open trace (Ended u (Branched n c)) f = f.0
flies-open trace (Ended u end) f = absurd f
flies-open trace e f = tt

pub flight-typed : (trace : Trace) → IsPlayed trace → WellKept (start_of trace).kept → IsTyped (start_of trace).kept → Every HasKey (lines_asked trace) → IsTyped (kept_with trace (flight trace))
flight-typed trace p well typed keys = by (flight trace) h.flies a.flying
  where
    h : Upheld trace
    h = holds trace p (of-start (start_of trace).kept well)

    a : AllTyped trace
    a = all-typed trace p well typed keys

    by : (o : Option Event) → IfComes (Flies trace) o → Flying trace o → IsTyped (kept_with trace o)
    by None f g = a.typed
    by (Some e) f g = keep-typed trace e h.sound a.typed a.doing g.0 (flies-open trace e f)
