-- Runs of statements: what others change away from their reaches changes nothing that they give.
use Rattle.salt_ast.specs.declared.trees.Statement.{Statement}
use Rattle.salt_ast.specs.declared.trees.TableDef.{TableDef}
use Rattle.law_story.proofs.Every.{every-left, every-map, every-right}
use Rattle.law_story.proofs.Places.{Agree, IsAway, agree-away, agree-changes, agree-rows, away-untouched}
use Rattle.law_story.proofs.Writes.{Writes, statement-frame, statement-writes}
use Rattle.salt_model.specs.Locks.{touches}
use Rattle.salt_model.specs.Statements.{UnitRun, after_done, doing, has_failed, run_from, run_on, serial, with_done}
use Rattle.salt_model.specs.Reaches.{reach}
use Rattle.salt_model.specs.Tables.{Tables, row_at, rows_in, with_changes}
use Rattle.salt_model.specs.Words.{Every}
use Rattle.salt_model.specs.declared.locks.Reach.{Reach}
use Rattle.salt_model.specs.declared.vars.Binding.{Binding}
use Rattle.salt_values.specs.declared.change.Change.{Change}
use Rattle.std.proofs.Common.{ap, sym, ◌∙◌}
use Rattle.std.specs.Prelude.{Bool, List, None, Option, Some, [], cond, false, refl, true, ◌∷◌, ◌≡◌, option_to_list}

-- reaches only grow
pub reaches-grow : (P : Reach → Type 0) (schema : List TableDef) (sts : List Statement) (r : UnitRun) → Every P (run_on schema sts r).reaches → Every P r.reaches
reaches-grow P schema [] r h = h
reaches-grow P schema (st ∷ sts) r h = every-left P r.reaches (option_to_list (reach schema r.vars st)) (by (has_failed (doing schema r st).answer) h (reaches-grow P schema sts (with_done schema r st)))
  where
    by : (b : Bool) → Every P (cond b (with_done schema r st) (run_on schema sts (with_done schema r st))).reaches → (Every P (run_on schema sts (with_done schema r st)).reaches → Every P (with_done schema r st).reaches) → Every P (with_done schema r st).reaches
    by true h f = h
    by false h f = f h

-- the first of the reaches, after one step
pub first-reach : (P : Reach → Type 0) (schema : List TableDef) (st : Statement) (sts : List Statement) (r : UnitRun) → Every P (run_on schema (st ∷ sts) r).reaches → Every P (option_to_list (reach schema r.vars st))
first-reach P schema st sts r h = every-right P r.reaches (option_to_list (reach schema r.vars st)) (by (has_failed (doing schema r st).answer) h (reaches-grow P schema sts (with_done schema r st)))
  where
    by : (b : Bool) → Every P (cond b (with_done schema r st) (run_on schema sts (with_done schema r st))).reaches → (Every P (run_on schema sts (with_done schema r st)).reaches → Every P (with_done schema r st).reaches) → Every P (with_done schema r st).reaches
    by true h f = h
    by false h f = f h

-- the same run, on other tables
abbrev pub on_tables : UnitRun → Tables → UnitRun
on_tables r es = record r { tables = es }

abbrev pub AgreeOn : List Reach → Tables → Tables → Type 0
AgreeOn rs a b = Every (λ r. Agree r a b) rs

rows-same : (o : Option Reach) (a b : Tables) → AgreeOn (option_to_list o) a b → rows_in o a ≡ rows_in o b
rows-same None a b h = refl
rows-same (Some r) a b h = agree-rows r a b h.0

doing-frame : (schema : List TableDef) (st : Statement) (r : UnitRun) (b : Tables) → AgreeOn (option_to_list (reach schema r.vars st)) r.tables b → doing schema (on_tables r b) st ≡ doing schema r st
doing-frame schema st r b h = sym (statement-frame schema r.tables b r.vars st (rows-same (reach schema r.vars st) r.tables b h))

-- what other tables become by the changes of a statement
abbrev after_on : List TableDef → Statement → UnitRun → Tables → Tables
after_on schema st r b = with_changes (doing schema r st).changes b

-- tables that agree on what the statements reach: all but the tables is the same after them
pub run-frame : (schema : List TableDef) (sts : List Statement) (r : UnitRun) (b : Tables) → AgreeOn (run_on schema sts r).reaches r.tables b → (c : Tables) × (run_on schema sts (on_tables r b) ≡ on_tables (run_on schema sts r) c)
run-frame schema [] r b h = (b, refl)
run-frame schema (st ∷ sts) r b h =
    by (has_failed (doing schema r st).answer) refl h (doing-frame schema st r b (first-reach (λ s. Agree s r.tables b) schema st sts r h)) (run-frame schema sts (with_done schema r st) (after_on schema st r b))
  where
    by : (f : Bool) → has_failed (doing schema r st).answer ≡ f → AgreeOn (cond f (with_done schema r st) (run_on schema sts (with_done schema r st))).reaches r.tables b → doing schema (on_tables r b) st ≡ doing schema r st →
        (AgreeOn (run_on schema sts (with_done schema r st)).reaches (with_done schema r st).tables (after_on schema st r b) → (c : Tables) × (run_on schema sts (on_tables (with_done schema r st) (after_on schema st r b)) ≡ on_tables (run_on schema sts (with_done schema r st)) c)) →
        (c : Tables) × (cond (has_failed (doing schema (on_tables r b) st).answer) (with_done schema (on_tables r b) st) (run_on schema sts (with_done schema (on_tables r b) st)) ≡ on_tables (cond f (with_done schema r st) (run_on schema sts (with_done schema r st))) c)
    by true e h same more =
        (after_on schema st r b, ap (λ x. cond x (with_done schema (on_tables r b) st) (run_on schema sts (with_done schema (on_tables r b) st))) (ap (λ x. has_failed x.answer) same ∙ e) ∙ ap (after_done (on_tables r b) (reach schema r.vars st)) same)
    by false e h same more =
        let rest = more (every-map (λ s. Agree s r.tables b) (λ s. Agree s (with_done schema r st).tables (after_on schema st r b)) (λ s a. agree-changes s (doing schema r st).changes r.tables b a) (run_on schema sts (with_done schema r st)).reaches h) in
        (rest.0, ap (λ x. cond x (with_done schema (on_tables r b) st) (run_on schema sts (with_done schema (on_tables r b) st))) (ap (λ x. has_failed x.answer) same ∙ e) ∙ ap (λ d. run_on schema sts (after_done (on_tables r b) (reach schema r.vars st) d)) same ∙ rest.1)

abbrev pub Untouched : Reach → Reach → Type 0
Untouched r s = touches r s ≡ false

writes-away : (r : Reach) (o : Option Reach) → Every (Untouched r) (option_to_list o) → (c : Change) → Writes o c → IsAway r c
writes-away r None h c w = absurd w
writes-away r (Some s) h c w = away-untouched r s c h.0 w.0 w.1

-- a run leaves the rows of a reach that none of its reaches touches
pub run-leaves : (r : Reach) (schema : List TableDef) (sts : List Statement) (x : UnitRun) → Every (Untouched r) (run_on schema sts x).reaches → Agree r (run_on schema sts x).tables x.tables
run-leaves r schema [] x h q w = refl
run-leaves r schema (st ∷ sts) x h q w = by (has_failed (doing schema x st).answer) h (λ g. run-leaves r schema sts (with_done schema x st) g q w) ∙ step q w
  where
    step : Agree r (with_done schema x st).tables x.tables
    step = agree-away r (doing schema x st).changes x.tables (every-map (Writes (reach schema x.vars st)) (IsAway r) (writes-away r (reach schema x.vars st) (first-reach (Untouched r) schema st sts x h)) (doing schema x st).changes (statement-writes schema x.tables x.vars st))

    by : (b : Bool) → Every (Untouched r) (cond b (with_done schema x st) (run_on schema sts (with_done schema x st))).reaches → (Every (Untouched r) (run_on schema sts (with_done schema x st)).reaches → row_at q (run_on schema sts (with_done schema x st)).tables ≡ row_at q (with_done schema x st).tables) → row_at q (cond b (with_done schema x st) (run_on schema sts (with_done schema x st))).tables ≡ row_at q (with_done schema x st).tables
    by true h f = refl
    by false h f = f h

abbrev pub NoTouch : List Reach → List Reach → Type 0
NoTouch rs ss = Every (λ r. Every (Untouched r) ss) rs

-- one unit's run after another's, whose reaches do not touch: it gives the same
pub run-beside : (schema : List TableDef) (es : Tables) (vars others : List Binding) (sts more : List Statement) → NoTouch (serial schema es vars sts).reaches (serial schema es others more).reaches →
    (c : Tables) × (serial schema (serial schema es others more).tables vars sts ≡ on_tables (serial schema es vars sts) c)
run-beside schema es vars others sts more h =
    run-frame schema sts (run_from es vars) (serial schema es others more).tables
    (every-map (λ r. Every (Untouched r) (serial schema es others more).reaches) (λ r. Agree r es (serial schema es others more).tables) (λ r u q w. sym (run-leaves r schema more (run_from es others) u q w)) (serial schema es vars sts).reaches h)
