-- Each open unit's answers, and the reaches that it holds, are those of doing its statements on the tables of the commits so far.
use Rattle.law_story.proofs.Apart.{IsTaken, no-touch-swap}
use Rattle.law_story.proofs.Coming.{Good, good-asked, good-cuts, good-opening, good-serving, good-turned, nothing, some-option_or, some-then_some}
use Rattle.law_story.proofs.Every.{IfSome, every-append, every-map}
use Rattle.law_story.proofs.Ids.{is_same_id-refl, is_same_id-sym, is_same_id-true}
use Rattle.law_story.proofs.Lists.{or_right_true}
use Rattle.law_story.proofs.Opens.{Closes, Open, Sole, failing, is_cut, is_ended, lasts}
use Rattle.law_story.proofs.Places.{both_true}
use Rattle.law_story.proofs.Runs.{NoTouch, Untouched, on_tables, run-beside}
use Rattle.law_story.specs.Names.{is_unit_of}
use Rattle.salt_ast.specs.declared.lines.Act.TheVariants.{Call}
use Rattle.salt_ast.specs.declared.programs.Body.TheVariants.{Acid}
use Rattle.salt_ast.specs.declared.trees.Statement.{Statement}
use Rattle.salt_ast.specs.declared.trees.TableDef.{TableDef}
use Rattle.salt_model.specs.After.{answer_now, branched, kept, reach_now, run_of, tables_after, vars_of}
use Rattle.salt_model.specs.Honest.{cause_among, cause_in}
use Rattle.salt_model.specs.Kept.{schema_of}
use Rattle.salt_model.specs.Locks.{taken_by, taken_since}
use Rattle.salt_model.specs.Next.{decision_in, flight, is_decision, next, said_event}
use Rattle.salt_model.specs.Openings.{cuts_or_drains, drains, stands_now, to_cut}
use Rattle.salt_model.specs.Phases.{Fallen, Opening, Phase, Serving, phase}
use Rattle.salt_model.specs.Played.{IsPlayed}
use Rattle.salt_model.specs.Refusals.{refusal}
use Rattle.salt_model.specs.Segments.{May}
use Rattle.salt_model.specs.Statements.{UnitRun, doing, has_failed, run_from, run_on, serial, with_done}
use Rattle.salt_model.specs.Tables.{Tables}
use Rattle.salt_model.specs.Trace.{Trace, from, ◌asks◌, ◌says◌, ◌turns◌}
use Rattle.salt_model.specs.Turns.{fails, next_number}
use Rattle.salt_model.specs.Units.{answers_of, done_of, is_open, kind_of, open_units, units_begun}
use Rattle.salt_model.specs.Words.{Every, is_empty}
use Rattle.salt_model.specs.declared.events.Answer.{Answer}
use Rattle.salt_model.specs.declared.events.Cause.{Cause}
use Rattle.salt_model.specs.declared.events.End.TheVariants.{Branched, Committed, Cut}
use Rattle.salt_model.specs.declared.events.Event.{Event}
use Rattle.salt_model.specs.declared.events.Event.TheVariants.{Began, Defined, Did, Down, Early, Ended, Opened, Waits}
use Rattle.salt_model.specs.declared.events.Owner.{Owner}
use Rattle.salt_model.specs.declared.events.UnitKind.{UnitKind}
use Rattle.salt_model.specs.declared.events.UnitKind.TheVariants.{Acid, Call, First, Later}
use Rattle.salt_model.specs.declared.events.Why.{Why}
use Rattle.salt_model.specs.declared.locks.Family.TheVariants.{Acid}
use Rattle.salt_model.specs.declared.locks.Reach.{Reach}
use Rattle.salt_model.specs.declared.shown.BaseAt.TheVariants.{First}
use Rattle.salt_values.specs.Id.{has_id, is_same_id}
use Rattle.salt_values.specs.declared.id.Id.{Id}
use Rattle.std.proofs.Common.{ap, inl, inr, subst, sym, ◌∙◌}
use Rattle.std.specs.Bool.{then_some}
use Rattle.std.specs.List.{filter, list_all, list_any}
use Rattle.std.specs.Option.{option_or}
use Rattle.std.specs.Prelude.{Bool, List, None, Option, Some, [], cond, false, option_to_list, refl, true, ℕ, ⊤, ◌++◌, ◌==◌, ◌||◌, ◌∷◌, ◌≡◌, ◌⊎◌}

-- one statement more, where none has failed
cause-last : (xs : List Answer) (a : Answer) → cause_among (xs ++ a ∷ []) ≡ None → cause_in a ≡ None
cause-last [] a h = first (cause_in a) h
  where
    first : (o : Option Cause) → option_or o None ≡ None → o ≡ None
    first None h = refl
    first (Some c) h = h
cause-last (x ∷ xs) a h = later (cause_in x) (cause_among (xs ++ a ∷ [])) h (cause-last xs a)
  where
    later : (o p : Option Cause) → option_or o p ≡ None → (p ≡ None → cause_in a ≡ None) → cause_in a ≡ None
    later None p h f = f h
    later (Some c) p h f = cc

pub cause-more : (xs : List Answer) (a : Answer) → cause_among xs ≡ None → cause_among (xs ++ a ∷ []) ≡ cause_in a
cause-more [] a h = alone (cause_in a)
  where
    alone : (o : Option Cause) → option_or o None ≡ o
    alone None = refl
    alone (Some c) = refl
cause-more (x ∷ xs) a h = by (cause_in x) h (cause-more xs a)
  where
    by : (o : Option Cause) → option_or o (cause_among xs) ≡ None → (cause_among xs ≡ None → cause_among (xs ++ a ∷ []) ≡ cause_in a) → option_or o (cause_among (xs ++ a ∷ [])) ≡ cause_in a
    by None h f = f h
    by (Some c) h f = cc

failed-cause : (a : Answer) → has_failed a ≡ true → cause_in a ≡ None → ⊥
failed-cause (Answer.Failed c) h e = cc
failed-cause a h e = cc

run-more : (schema : List TableDef) (sts : List Statement) (st : Statement) (r : UnitRun) → cause_among (run_on schema sts r).answers ≡ None → run_on schema (sts ++ st ∷ []) r ≡ with_done schema (run_on schema sts r) st
run-more schema [] st r h = choose-same (has_failed (doing schema r st).answer)
  where
    choose-same : (b : Bool) → cond b (with_done schema r st) (with_done schema r st) ≡ with_done schema r st
    choose-same true = refl
    choose-same false = refl
run-more schema (x ∷ sts) st r h = by (has_failed (doing schema r x).answer) refl h (run-more schema sts st (with_done schema r x))
  where
    w : UnitRun
    w = with_done schema r x

    by : (b : Bool) → has_failed (doing schema r x).answer ≡ b → cause_among (cond b (with_done schema r x) (run_on schema sts (with_done schema r x))).answers ≡ None → (cause_among (run_on schema sts (with_done schema r x)).answers ≡ None → run_on schema (sts ++ st ∷ []) (with_done schema r x) ≡ with_done schema (run_on schema sts (with_done schema r x)) st) →
        cond b (with_done schema r x) (run_on schema (sts ++ st ∷ []) (with_done schema r x)) ≡ with_done schema (cond b (with_done schema r x) (run_on schema sts (with_done schema r x))) st
    by true e h more = absurd (failed-cause (doing schema r x).answer e (cause-last r.answers (doing schema r x).answer h))
    by false e h more = more h

-- what holds of one open unit
pub record Replayed (trace : Trace) (u : Id) : Type 0 where
  pub answers : answers_of u trace ≡ (run_of u trace).answers
  pub taken : Every (IsTaken trace u) (run_of u trace).reaches
  pub causes : cause_among (answers_of u trace) ≡ failing u trace
  pub begun : has_id u (units_begun trace) ≡ true

pub record Ground (trace : Trace) : Type 0 where
  pub each : (u : Id) → Open trace u → Replayed trace u
  pub apart : (u v : Id) → Open trace u → Open trace v → is_same_id u v ≡ false → NoTouch (run_of u trace).reaches (run_of v trace).reaches
  pub sole : phase trace ≡ Opening → Sole trace

-- none is open where no begun unit is
pub not-open : (trace : Trace) (u : Id) → open_units trace ≡ [] → has_id u (units_begun trace) ≡ true → Open trace u → ⊥
not-open trace u none begun o = go (units_begun trace) none begun
  where
    go : (us : List Id) → filter (is_open trace) us ≡ [] → list_any (is_same_id u) us ≡ true → ⊥
    go [] n b = cc
    go (v ∷ us) n b = by (is_same_id u v) refl (is_open trace v) refl n b (go us)
      where
        by : (s : Bool) → is_same_id u v ≡ s → (p : Bool) → is_open trace v ≡ p → cond p (v ∷ filter (is_open trace) us) (filter (is_open trace) us) ≡ [] → (s || list_any (is_same_id u) us) ≡ true → (filter (is_open trace) us ≡ [] → list_any (is_same_id u) us ≡ true → ⊥) → ⊥
        by s e true f n b rest = cc
        by true e false f n b rest = let g : is_open trace u ≡ false = ap (is_open trace) (is_same_id-true u v e) ∙ f in cc
        by false e false f n b rest = rest n b

-- what an event of another unit leaves
branched-run : (trace : Trace) (v u : Id) (n : ℕ) (c : Cause) → (x : Tables) × (run_of u (trace says Ended v (Branched n c)) ≡ on_tables (run_of u trace) x)
branched-run trace v u n c = by (kind_of v trace)
  where
    by : (o : Option UnitKind) → (x : Tables) × (serial (schema_of (branched (kept trace) n o)) (branched (kept trace) n o).tables (vars_of u trace) (done_of u trace) ≡ on_tables (run_of u trace) x)
    by None = ((run_of u trace).tables, refl)
    by (Some kind) = ((run_of u trace).tables, refl)

pub others : (trace : Trace) (e : Event) (u : Id) → Ground trace → Good trace e → Open trace u → is_unit_of u e ≡ false → (x : Tables) × (run_of u (trace says e) ≡ on_tables (run_of u trace) x)
others trace (Ended v (Committed n)) u inv g o other = run-beside (schema_of (kept trace)) (tables_after trace) (vars_of u trace) (vars_of v trace) (done_of u trace) (done_of v trace) (inv.apart u v o g.0 other)
others trace (Ended v (Branched n c)) u inv g o other = branched-run trace v u n c
others trace (Defined n t) u inv g o other = absurd (not-open trace u g (inv.each u o).begun o)
others trace (Began v kind) u inv g o other = ((run_of u trace).tables, rw other refl)
others trace (Did v st a) u inv g o other = ((run_of u trace).tables, rw other refl)
others trace e u inv g o other = ((run_of u trace).tables, refl)

answers-other : (trace : Trace) (e : Event) (u : Id) → is_unit_of u e ≡ false → answers_of u (trace says e) ≡ answers_of u trace
answers-other trace (Began v kind) u other = rw other refl
answers-other trace (Did v st a) u other = rw other refl
answers-other trace e u other = refl

pub open-other : (trace : Trace) (e : Event) (u : Id) → is_unit_of u e ≡ false → Open (trace says e) u → Open trace u
open-other trace (Began v kind) u other o = rw other at o
open-other trace (Did v st a) u other o = rw other at o
open-other trace (Waits v owners) u other o = rw other at o
open-other trace (Ended v end) u other o = rw other at o
open-other trace e u other o = o

failing-other : (trace : Trace) (e : Event) (u : Id) → is_unit_of u e ≡ false → lasts e ≡ false → failing u (trace says e) ≡ None
failing-other trace (Did v st a) u other l = rw other refl
failing-other trace (Down why) u other l = cc
failing-other trace (Opened boot n) u other l = cc
failing-other trace (Ended v Cut) u other l = cc
failing-other trace e u other l = refl

failing-lasts : (trace : Trace) (e : Event) (u : Id) → lasts e ≡ true → failing u (trace says e) ≡ failing u trace
failing-lasts trace (Down why) u l = refl
failing-lasts trace (Opened boot n) u l = refl
failing-lasts trace (Ended v Cut) u l = refl
failing-lasts trace e u l = cc

all-left : {A : Type 0} (q : A → Bool) (xs ys : List A) → list_all q (xs ++ ys) ≡ true → list_all q xs ≡ true
all-left q [] ys h = refl
all-left q (x ∷ xs) ys h = let b = both_true (q x) _ h in rw (b.0, all-left q xs ys b.1) refl

all-right : {A : Type 0} (q : A → Bool) (xs ys : List A) → list_all q (xs ++ ys) ≡ true → list_all q ys ≡ true
all-right q [] ys h = h
all-right q (x ∷ xs) ys h = all-right q xs ys (both_true (q x) _ h).1

-- the event is no early end of an opening, behind which what was taken before counts no longer
abbrev pub IsNotEarly : Event → Type 0
IsNotEarly (Early bs) = ⊥
IsNotEarly e = ⊤

pub taken-later : (trace : Trace) (e : Event) (u : Id) (r : Reach) → IsNotEarly e → IsTaken trace u r → IsTaken (trace says e) u r
taken-later trace (Did v st a) u r n t q h = t q (all-left q (taken_since trace) (taken_by v (reach_now v trace st)) h)
taken-later trace (Early bs) u r n t q h = absurd n
taken-later trace e u r n t q h = t q h

taken-now : (trace : Trace) (u : Id) (st : Statement) (a : Answer) → Every (IsTaken (trace says Did u st a) u) (option_to_list (reach_now u trace st))
taken-now trace u st a = by (reach_now u trace st) refl
  where
    by : (o : Option Reach) → reach_now u trace st ≡ o → Every (IsTaken (trace says Did u st a) u) (option_to_list o)
    by None e = tt
    by (Some r) e = ((λ q h. (both_true (q (record { unit = u; reach = r })) true (ap (λ o. list_all q (taken_by u o)) (sym e) ∙ all-right q (taken_since trace) (taken_by u (reach_now u trace st)) h)).0), tt)

pub any-left : (u : Id) (us vs : List Id) → has_id u us ≡ true → has_id u (us ++ vs) ≡ true
any-left u [] vs h = cc
any-left u (v ∷ us) vs h = by (is_same_id u v) h (any-left u us vs)
  where
    by : (b : Bool) → (b || has_id u us) ≡ true → (has_id u us ≡ true → has_id u (us ++ vs) ≡ true) → (b || has_id u (us ++ vs)) ≡ true
    by true h f = refl
    by false h f = f h

any-last : (u : Id) (us : List Id) → has_id u (us ++ u ∷ []) ≡ true
any-last u [] = rw (is_same_id-refl u) refl
any-last u (v ∷ us) = by (is_same_id u v) (any-last u us)
  where
    by : (b : Bool) → has_id u (us ++ u ∷ []) ≡ true → (b || has_id u (us ++ u ∷ [])) ≡ true
    by true h = refl
    by false h = h

begun-later : (trace : Trace) (e : Event) (u : Id) → has_id u (units_begun trace) ≡ true → has_id u (units_begun (trace says e)) ≡ true
begun-later trace (Began v kind) u h = any-left u (units_begun trace) (v ∷ []) h
begun-later trace e u h = h

-- no open unit has failed, unless the event is one through which that stays
abbrev Quiet : Trace → Event → Type 0
Quiet trace e = (u : Id) → Open trace u → Open (trace says e) u → lasts e ≡ false → failing u trace ≡ None

-- a unit that the event is not of
each-other : (trace : Trace) (e : Event) (u : Id) → Ground trace → Good trace e → Quiet trace e → Open trace u → Open (trace says e) u → is_unit_of u e ≡ false → Replayed (trace says e) u
each-other trace (Early bs) u inv g quiet o p other = absurd (not-open trace u g.0 (inv.each u o).begun o)
each-other trace e u inv g quiet o p other =
    let was = inv.each u o in
    let run = others trace e u inv g o other in
    let reaches : (run_of u trace).reaches ≡ (run_of u (trace says e)).reaches = sym (ap (λ r. r.reaches) run.1) in
    record {
      answers = answers-other trace e u other ∙ was.answers ∙ sym (ap (λ r. r.answers) run.1);
      taken = subst (Every (IsTaken (trace says e) u)) reaches (every-map (IsTaken trace u) (IsTaken (trace says e) u) (λ r t. taken-later trace e u r tt t) (run_of u trace).reaches was.taken);
      causes = ap cause_among (answers-other trace e u other) ∙ was.causes ∙ by (lasts e) refl;
      begun = begun-later trace e u was.begun;
    }
  where
    by : (b : Bool) → lasts e ≡ b → failing u trace ≡ failing u (trace says e)
    by true l = sym (failing-lasts trace e u l)
    by false l = quiet u o p l ∙ sym (failing-other trace e u other l)

began-run : (trace : Trace) (u : Id) (kind : UnitKind) → (run_of u (trace says Began u kind)).reaches ≡ []
began-run trace u kind = rw (is_same_id-refl u) refl

each-began : (trace : Trace) (u : Id) (kind : UnitKind) → Replayed (trace says Began u kind) u
each-began trace u kind = record {
  answers = rw (is_same_id-refl u) refl;
  taken = subst (Every (IsTaken (trace says Began u kind) u)) (sym (began-run trace u kind)) tt;
  causes = rw (is_same_id-refl u) refl;
  begun = any-last u (units_begun trace);
}

pub did-run : (trace : Trace) (u : Id) (st : Statement) (a : Answer) → Ground trace → failing u trace ≡ None → Open trace u → run_of u (trace says Did u st a) ≡ with_done (schema_of (kept trace)) (run_of u trace) st
did-run trace u st a inv quiet o =
    let was = inv.each u o in
    rw (is_same_id-refl u) (run-more (schema_of (kept trace)) (done_of u trace) st (run_from (tables_after trace) (vars_of u trace)) (ap cause_among (sym was.answers) ∙ was.causes ∙ quiet))

each-did : (trace : Trace) (u : Id) (st : Statement) (a : Answer) → Ground trace → Good trace (Did u st a) → failing u trace ≡ None → Replayed (trace says Did u st a) u
each-did trace u st a inv g quiet =
    let was = inv.each u g.0 in
    let run = did-run trace u st a inv quiet g.0 in
    let told : answers_of u (trace says Did u st a) ≡ answers_of u trace ++ a ∷ [] = rw (is_same_id-refl u) refl in
    record {
      answers = told ∙ ap (λ x. answers_of u trace ++ x ∷ []) g.1 ∙ ap (λ xs. xs ++ answer_now u trace st ∷ []) was.answers ∙ sym (ap (λ r. r.answers) run);
      taken = subst (Every (IsTaken (trace says Did u st a) u)) (sym (ap (λ r. r.reaches) run))
          (every-append (IsTaken (trace says Did u st a) u) (run_of u trace).reaches (option_to_list (reach_now u trace st)) (every-map (IsTaken trace u) (IsTaken (trace says Did u st a) u) (λ r t. taken-later trace (Did u st a) u r tt t) (run_of u trace).reaches was.taken) (taken-now trace u st a));
      causes = ap cause_among told ∙ cause-more (answers_of u trace) a (was.causes ∙ quiet) ∙ rw (is_same_id-refl u) refl;
      begun = was.begun;
    }

each-waits : (trace : Trace) (u : Id) (owners : List Owner) → Ground trace → Good trace (Waits u owners) → failing u trace ≡ None → Replayed (trace says Waits u owners) u
each-waits trace u owners inv g quiet = let was = inv.each u g in record { answers = was.answers; taken = was.taken; causes = was.causes ∙ quiet; begun = was.begun }

each-own : (trace : Trace) (e : Event) (u : Id) → Ground trace → Good trace e → (Open trace u → lasts e ≡ false → failing u trace ≡ None) → Open (trace says e) u → is_unit_of u e ≡ true → Replayed (trace says e) u
each-own trace (Began v kind) u inv g quiet o same = subst (λ x. Replayed (trace says Began x kind) u) (is_same_id-true u v same) (each-began trace u kind)
each-own trace (Did v st a) u inv g quiet o same =
    let i = is_same_id-true u v same in
    subst (λ x. Good trace (Did x st a) → Replayed (trace says Did x st a) u) i (λ g. each-did trace u st a inv g (quiet g.0 refl)) g
each-own trace (Waits v owners) u inv g quiet o same =
    let i = is_same_id-true u v same in
    subst (λ x. Good trace (Waits x owners) → Replayed (trace says Waits x owners) u) i (λ g. each-waits trace u owners inv g (quiet g refl)) g
each-own trace (Ended v end) u inv g quiet o same = let shut : is_open (trace says Ended v end) u ≡ false = rw same refl in cc
each-own trace e u inv g quiet o same = cc

-- two units, the first of which the event is of
apart-own : (trace : Trace) (e : Event) (u v : Id) → Ground trace → Good trace e → (Open trace u → lasts e ≡ false → failing u trace ≡ None) → Open (trace says e) u → Open trace v → is_unit_of u e ≡ true → is_unit_of v e ≡ false → is_same_id u v ≡ false → NoTouch (run_of u (trace says e)).reaches (run_of v trace).reaches
apart-own trace (Began w kind) u v inv g quiet o p same other differ =
    subst (λ x. NoTouch (run_of u (trace says Began x kind)).reaches (run_of v trace).reaches) (is_same_id-true u w same) (subst (λ rs. NoTouch rs (run_of v trace).reaches) (sym (began-run trace u kind)) tt)
apart-own trace (Did w st a) u v inv g quiet o p same other differ =
    subst (λ x. Good trace (Did x st a) → NoTouch (run_of u (trace says Did x st a)).reaches (run_of v trace).reaches) (is_same_id-true u w same)
    (λ g. subst (λ rs. NoTouch rs (run_of v trace).reaches) (sym (ap (λ r. r.reaches) (did-run trace u st a inv (quiet g.0 refl) g.0)))
    (every-append (λ r. Every (Untouched r) (run_of v trace).reaches) (run_of u trace).reaches (option_to_list (reach_now u trace st)) (inv.apart u v g.0 p differ)
    (no-touch-swap (run_of v trace).reaches (option_to_list (reach_now u trace st))
    (every-map (IsTaken trace v) (λ s. Every (Untouched s) (option_to_list (reach_now u trace st))) (λ s t. g.2 v p differ s t) (run_of v trace).reaches (inv.each v p).taken)))) g
apart-own trace (Waits w owners) u v inv g quiet o p same other differ =
    subst (λ x. Open trace x → NoTouch (run_of u trace).reaches (run_of v trace).reaches) (is_same_id-true u w same) (λ g. inv.apart u v g p differ) g
apart-own trace (Ended w end) u v inv g quiet o p same other differ = let shut : is_open (trace says Ended w end) u ≡ false = rw same refl in cc
apart-own trace e u v inv g quiet o p same other differ = cc

own-one : (e : Event) (u v : Id) → is_unit_of u e ≡ true → is_same_id u v ≡ false → is_unit_of v e ≡ false
own-one (Began w kind) u v same differ = is_same_id-sym v w ∙ subst (λ x. is_same_id x v ≡ false) (is_same_id-true u w same) differ
own-one (Did w st a) u v same differ = is_same_id-sym v w ∙ subst (λ x. is_same_id x v ≡ false) (is_same_id-true u w same) differ
own-one (Waits w owners) u v same differ = is_same_id-sym v w ∙ subst (λ x. is_same_id x v ≡ false) (is_same_id-true u w same) differ
own-one (Ended w end) u v same differ = is_same_id-sym v w ∙ subst (λ x. is_same_id x v ≡ false) (is_same_id-true u w same) differ
own-one e u v same differ = cc

sole-says : (trace : Trace) (e : Event) → Ground trace → Good trace e → phase (trace says e) ≡ Opening → Sole (trace says e)
sole-says trace (Began u kind) inv g p = ((λ v o. by v o (is_same_id u v) refl), rw (is_same_id-refl u) (g.0 p).1)
  where
    by : (v : Id) → Open (trace says Began u kind) v → (b : Bool) → is_same_id u v ≡ b → b ≡ true
    by v o true e = refl
    by v o false e = let was = open-other trace (Began u kind) v (is_same_id-sym v u ∙ e) o in absurd (not-open trace v (g.0 p).0 (inv.each v was).begun was)
sole-says trace (Did u st a) inv g p = ((λ v o. by v o (is_same_id u v) refl), (g.3 p).1)
  where
    by : (v : Id) → Open (trace says Did u st a) v → (b : Bool) → is_same_id u v ≡ b → b ≡ true
    by v o true e = refl
    by v o false e = let x = (g.3 p).0 v (open-other trace (Did u st a) v (is_same_id-sym v u ∙ e) o) in sym e ∙ x
sole-says trace e inv g p = tt

base-says : (trace : Trace) (e : Event) → Ground trace → Good trace e → Quiet trace e → Ground (trace says e)
base-says trace e inv g quiet = record {
  each = λ u o. each-by u o (is_unit_of u e) refl;
  apart = λ u v o p differ. apart-by u v o p differ (is_unit_of u e) (is_unit_of v e) refl refl;
  sole = sole-says trace e inv g;
}
  where
    each-by : (u : Id) → Open (trace says e) u → (b : Bool) → is_unit_of u e ≡ b → Replayed (trace says e) u
    each-by u o true same = each-own trace e u inv g (λ was l. quiet u was o l) o same
    each-by u o false other = each-other trace e u inv g quiet (open-other trace e u other o) o other

    still : (v : Id) → Open trace v → is_unit_of v e ≡ false → (run_of v trace).reaches ≡ (run_of v (trace says e)).reaches
    still v p other = sym (ap (λ r. r.reaches) (others trace e v inv g p other).1)

    own-by : (u v : Id) → Open (trace says e) u → Open (trace says e) v → is_same_id u v ≡ false → is_unit_of u e ≡ true → NoTouch (run_of u (trace says e)).reaches (run_of v (trace says e)).reaches
    own-by u v o p differ same =
        let other = own-one e u v same differ in
        let was = open-other trace e v other p in
        subst (NoTouch (run_of u (trace says e)).reaches) (still v was other) (apart-own trace e u v inv g (λ before l. quiet u before o l) o was same other differ)

    apart-by : (u v : Id) → Open (trace says e) u → Open (trace says e) v → is_same_id u v ≡ false → (b c : Bool) → is_unit_of u e ≡ b → is_unit_of v e ≡ c → NoTouch (run_of u (trace says e)).reaches (run_of v (trace says e)).reaches
    apart-by u v o p differ true c same d = own-by u v o p differ same
    apart-by u v o p differ false true d same = no-touch-swap (run_of v (trace says e)).reaches (run_of u (trace says e)).reaches (own-by v u p o (is_same_id-sym v u ∙ differ) same)
    apart-by u v o p differ false false off nor =
        let x = open-other trace e u off o in
        let y = open-other trace e v nor p in
        subst (λ rs. NoTouch rs (run_of v (trace says e)).reaches) (still u x off) (subst (NoTouch (run_of u trace).reaches) (still v y nor) (inv.apart u v x y differ))

-- what holds at each place of a played trace
pub record Inv (trace : Trace) : Type 0 where
  pub base : Ground trace
  pub coming : IfSome (Good trace) (next trace)
  pub flying : IfSome (λ e. Good trace e × (is_decision e ≡ true)) (flight trace)
  pub closing : (u : Id) → Open trace u → (c : Cause) → failing u trace ≡ Some c → IfSome (Closes u) (next trace) × IfSome (Closes u) (flight trace) × (phase trace ≡ Serving → next trace ≡ None → ⊥)

decided : (P : Event → Type 0) (o : Option Event) → IfSome P o → IfSome (λ e. P e × (is_decision e ≡ true)) (decision_in o)
decided P None h = tt
decided P (Some e) h = by (is_decision e) refl
  where
    by : (b : Bool) → is_decision e ≡ b → IfSome (λ e. P e × (is_decision e ≡ true)) (then_some b e)
    by true d = (h, d)
    by false d = tt

still-decided : (P : Event → Type 0) (o : Option Event) → IfSome P o → IfSome P (decision_in o)
still-decided P None h = tt
still-decided P (Some e) h = by (is_decision e)
  where
    by : (b : Bool) → IfSome P (then_some b e)
    by true = h
    by false = tt

-- a decision in flight is as good after a Down and an Opened
down-good : (trace : Trace) (why : Why) (e : Event) → Good trace e × (is_decision e ≡ true) → Good (trace says Down why) e × (is_decision e ≡ true)
down-good trace why (Ended u (Committed n)) h = h
down-good trace why (Ended u (Branched n c)) h = h
down-good trace why (Defined n t) h = h
down-good trace why e h = let d = h.1 in cc

opened-good : (trace : Trace) (boot m : ℕ) (e : Event) → Good trace e × (is_decision e ≡ true) → Good (trace says Opened boot m) e
opened-good trace boot m (Ended u (Committed n)) h = h.0
opened-good trace boot m (Ended u (Branched n c)) h = h.0
opened-good trace boot m (Defined n t) h = h.0
opened-good trace boot m e h = let d = h.1 in cc

some-imp : {A : Type 0} (P Q : A → Type 0) → ((x : A) → P x → Q x) → (o : Option A) → IfSome P o → IfSome Q o
some-imp P Q f None h = tt
some-imp P Q f (Some x) h = f x h

some-stands : (P : Event → Type 0) (trace : Trace) (n : ℕ) (o : Option Event) → IfSome P o → IfSome P (stands_now trace n o)
some-stands P trace n None h = tt
some-stands P trace n (Some e) h = some-then_some P (n == next_number trace) e h

close-cuts : (trace : Trace) (u : Id) → Ground trace → Open trace u → IfSome (Closes u) (cuts_or_drains trace (to_cut trace))
close-cuts trace u base o = by (to_cut trace)
  where
    shut : (b : Bool) → is_empty (open_units trace) ≡ b → IfSome (Closes u) (then_some b (drains trace (kept trace).conts))
    shut false e = tt
    shut true e = absurd (not-open trace u (nothing (open_units trace) e) (base.each u o).begun o)

    by : (us : List Id) → IfSome (Closes u) (cuts_or_drains trace us)
    by (v ∷ us) = or_right_true (is_same_id u v) true refl
    by [] = shut (is_empty (open_units trace)) refl

coming-said : (trace : Trace) (e : Event) → Ground (trace says e) → (lasts e ≡ false ⊎ (phase (trace says e) ≡ Serving → ⊥)) → (p : Phase) → phase (trace says e) ≡ p → IfSome (Good (trace says e)) (said_event p (trace says e) e)
coming-said trace e base l Fallen q = tt
coming-said trace e base l Opening q = good-opening trace e q (base.sole q)
coming-said trace e base (inl l) Serving q = good-serving trace e q l
coming-said trace e base (inr f) Serving q = absurd (f q)

-- a failed statement ends its unit at once
fails-closes : (trace : Trace) (v : Id) (c : Cause) (k : Option UnitKind) → (w : Id) → is_same_id w v ≡ true → Closes w (fails trace v c k)
fails-closes trace v c (Some (Later b part)) w s = rw s refl
fails-closes trace v c None w s = rw s refl
fails-closes trace v c (Some (Acid x)) w s = rw s refl
fails-closes trace v c (Some (Call x y z)) w s = rw s refl
fails-closes trace v c (Some (First x b y z)) w s = rw s refl

closing-did : (trace : Trace) (v : Id) (st : Statement) (a : Answer) (u : Id) (c : Cause) → failing u (trace says Did v st a) ≡ Some c → (p : Phase) → IfSome (Closes u) (said_event p (trace says Did v st a) (Did v st a)) × (p ≡ Serving → said_event p (trace says Did v st a) (Did v st a) ≡ None → ⊥)
closing-did trace v st a u c f p = by (is_same_id u v) refl a f p
  where
    by : (b : Bool) → is_same_id u v ≡ b → (a : Answer) → cond b (cause_in a) None ≡ Some c → (p : Phase) → IfSome (Closes u) (said_event p (trace says Did v st a) (Did v st a)) × (p ≡ Serving → said_event p (trace says Did v st a) (Did v st a) ≡ None → ⊥)
    by false e a f p = cc
    by true e (Answer.Failed d) f Fallen = (tt, λ s. cc)
    by true e (Answer.Failed d) f Opening = (fails-closes (trace says Did v st (Answer.Failed d)) v d (kind_of v trace) u e, λ s. cc)
    by true e (Answer.Failed d) f Serving = (fails-closes (trace says Did v st (Answer.Failed d)) v d (kind_of v trace) u e, λ s n. cc)
    by true e a f p = cc

abbrev Closing : Trace → Type 0
Closing trace = (u : Id) → Open trace u → (c : Cause) → failing u trace ≡ Some c → IfSome (Closes u) (next trace) × IfSome (Closes u) (flight trace) × (phase trace ≡ Serving → next trace ≡ None → ⊥)

closing-says : (trace : Trace) (e : Event) → Ground (trace says e) → Closing trace → Good trace e → Closing (trace says e)
closing-says trace (Did v st a) base was g u o c f =
    let x = closing-did trace v st a u c f (phase trace) in
    (x.0, still-decided (Closes u) (next (trace says Did v st a)) x.0, x.1)
closing-says trace (Down why) base was g u o c f = (tt, (was u o c f).1, λ s. cc)
closing-says trace (Opened boot n) base was g u o c f =
    let here = trace says Opened boot n in
    let x : IfSome (Closes u) (next here) = some-option_or (Closes u) (stands_now here n (flight trace)) (cuts_or_drains here (to_cut here)) (some-stands (Closes u) here n (flight trace) (was u o c f).1) (close-cuts here u base o) in
    (x, still-decided (Closes u) (next here) x, λ s. cc)
closing-says trace (Ended v Cut) base was g u o c f =
    let x = by (phase trace) refl in
    (x, still-decided (Closes u) (next (trace says Ended v Cut)) x, λ s. absurd (g.2 s))
  where
    by : (p : Phase) → phase trace ≡ p → IfSome (Closes u) (said_event p (trace says Ended v Cut) (Ended v Cut))
    by Fallen q = tt
    by Opening q = close-cuts (trace says Ended v Cut) u base o
    by Serving q = absurd (g.2 q)
closing-says trace e base was g u o c f = cc

pub good-event : (trace : Trace) (e : Event) → Inv trace → May trace e → Good trace e
good-event trace (Down why) inv m = tt
good-event trace (Opened boot n) inv m = tt
good-event trace e inv m = subst (IfSome (Good trace)) m inv.coming

quiet-next : (trace : Trace) (e : Event) → Inv trace → next trace ≡ Some e → Quiet trace e
quiet-next trace e inv n u o after l = by (failing u trace) refl
  where
    cut-lasts : (e : Event) → is_cut e ≡ true → lasts e ≡ true
    cut-lasts (Ended v Cut) h = refl
    cut-lasts e h = cc

    ended-shut : (e : Event) → is_ended u e ≡ true → is_open (trace says e) u ≡ false
    ended-shut (Ended v end) h = rw h refl
    ended-shut e h = cc

    closes : (x y : Bool) → is_ended u e ≡ x → is_cut e ≡ y → (x || y) ≡ true → ⊥
    closes true y s t h = let w = ended-shut e s in cc
    closes false true s t h = let w = cut-lasts e t in cc
    closes false false s t h = cc

    by : (f : Option Cause) → failing u trace ≡ f → f ≡ None
    by None f = refl
    by (Some c) f = absurd (closes (is_ended u e) (is_cut e) refl refl (subst (IfSome (Closes u)) n (inv.closing u o c f).0))

pub quiet : (trace : Trace) (e : Event) → Inv trace → May trace e → Quiet trace e
quiet trace (Down why) inv m = λ u o after l. cc
quiet trace (Opened boot n) inv m = λ u o after l. cc
quiet trace e inv m = quiet-next trace e inv m

flying-says : (trace : Trace) (e : Event) → Inv trace → Ground (trace says e) → Good trace e → IfSome (Good (trace says e)) (next (trace says e)) × IfSome (λ x. Good (trace says e) x × (is_decision x ≡ true)) (flight (trace says e))
flying-says trace (Down why) inv base g = (tt, some-imp _ _ (down-good trace why) (flight trace) inv.flying)
flying-says trace (Opened boot n) inv base g =
    let here = trace says Opened boot n in
    let x : IfSome (Good here) (next here) = some-option_or (Good here) (stands_now here n (flight trace)) (cuts_or_drains here (to_cut here)) (some-stands (Good here) here n (flight trace) (some-imp _ _ (opened-good trace boot n) (flight trace) inv.flying)) (good-cuts here refl) in
    (x, decided (Good here) (next here) x)
flying-says trace (Ended v Cut) inv base g = let x = coming-said trace (Ended v Cut) base (inr g.2) (phase trace) refl in (x, decided (Good (trace says Ended v Cut)) (next (trace says Ended v Cut)) x)
flying-says trace e inv base g = let x = coming-said trace e base (inl refl) (phase (trace says e)) refl in (x, decided (Good (trace says e)) (next (trace says e)) x)

inv-says : (trace : Trace) (e : Event) → Inv trace → May trace e → Inv (trace says e)
inv-says trace e inv m =
    let g = good-event trace e inv m in
    let base = base-says trace e inv.base g (quiet trace e inv m) in
    let f = flying-says trace e inv base g in
    record { base = base; coming = f.0; flying = f.1; closing = closing-says trace e base inv.closing g }

complete-quiet : (trace : Trace) (u : Id) → Inv trace → Open trace u → phase trace ≡ Serving → next trace ≡ None → failing u trace ≡ None
complete-quiet trace u inv o s n = by (failing u trace) refl
  where
    by : (f : Option Cause) → failing u trace ≡ f → f ≡ None
    by None e = refl
    by (Some c) f = absurd ((inv.closing u o c f).2 s n)

-- what holds at each place of a played trace, through every stop
pub replays : (trace : Trace) → IsPlayed trace → Inv trace
replays (from k) p = record { base = record { each = λ u o. cc; apart = λ u v o q d. cc; sole = λ s. tt }; coming = tt; flying = tt; closing = λ u o c f. cc }
replays (trace asks line) p =
    let inv = replays trace p.0 in
    let base = inv.base in
    let x = good-asked trace p.1.0 line (refusal trace line) refl in
    record {
      base = record { each = λ u o. let was = base.each u o in record { answers = was.answers; taken = was.taken; causes = was.causes ∙ complete-quiet trace u inv o p.1.0 p.1.1; begun = was.begun }; apart = base.apart; sole = λ s. tt };
      coming = x;
      flying = decided (Good (trace asks line)) (next (trace asks line)) x;
      closing = λ u o c f. cc;
    }
replays (trace turns b) p =
    let inv = replays trace p.0 in
    let base = inv.base in
    let x = good-turned trace p.1 b in
    record {
      base = record { each = λ u o. let was = base.each u o in record { answers = was.answers; taken = was.taken; causes = was.causes ∙ complete-quiet trace u inv o p.1 p.2; begun = was.begun }; apart = base.apart; sole = λ s. tt };
      coming = x;
      flying = decided (Good (trace turns b)) (next (trace turns b)) x;
      closing = λ u o c f. cc;
    }
replays (trace says e) p = inv-says trace e (replays trace p.0) p.1
