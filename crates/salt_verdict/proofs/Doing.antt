-- Statements done one after another under a unit's own edits give what they give on tables that change.
use Rattle.law_states.specs.Overlays.{AreInOrder, Edit, edit_of, edits_of, over, put_all, row_edited, with_edits}
use Rattle.law_story.proofs.Places.{row_at-set}
use Rattle.salt_ast.specs.declared.trees.Statement.{Statement}
use Rattle.salt_ast.specs.declared.trees.TableDef.{TableDef}
use Rattle.salt_audit.specs.Replaying.{done_under}
use Rattle.salt_model.specs.Statements.{UnitRun, has_failed, run_on, serial, with_done}
use Rattle.salt_model.specs.Tables.{Edits, Tables, changed_at, make_change, place_cmp, place_total, put_changes, row_at, with_changes}
use Rattle.salt_model.specs.declared.events.Answer.{Answer}
use Rattle.salt_model.specs.declared.locks.Reach.{Reach}
use Rattle.salt_model.specs.declared.places.Place.{Place}
use Rattle.salt_model.specs.declared.vars.Binding.{Binding}
use Rattle.salt_units.specs.Acting.{HasDone, HaveTheirKeys}
use Rattle.salt_units.specs.Edited.{HasItsKey}
use Rattle.salt_model.specs.Words.{Every}
use Rattle.salt_values.specs.Value.{key_of}
use Rattle.salt_values.specs.declared.value.Value.{Value}
use Rattle.std.specs.Option.{ForSome}
use Rattle.salt_values.specs.declared.change.Change.{Change}
use Rattle.salt_verdict.specs.Again.{Outcome, outcome_of_run, outcome_on}
use Rattle.std.specs.declared.alloc.AllocError.{AllocError}
use Rattle.std.specs.Prelude.{OnErr, OnOk}
use Rattle.std.proofs.Common.{Err, IfSome, None, Ok, Result, Option, arith, suc, get_or, length, subst, ◌<◌, ◌≤◌, Bool, List, Some, [], ap, cond, false, if◌then◌else◌, refl, sym, true, ◌++◌, ◌∙◌, ◌∷◌, ◌≡◌}
use Rattle.std.specs.FinMap.Entries.{find, find-put, is_sorted-put, put}
use Rattle.std.specs.Ordering.{is_eq}

pub record OfEdits : Type 0 where
  pub rows : (ds : List Edit) (es : Tables) (q : Place) → AreInOrder ds → row_at q (with_edits ds es) ≡ row_edited ds es q
  pub made : (ds : List Edit) (es now : Tables) → AreInOrder ds → ((q : Place) → row_at q now ≡ row_edited ds es q) → now ≡ with_edits ds es

abbrev pub made : List Answer → List Binding → List Edit → Outcome
made as_ vars edits = record { answers = as_; vars = vars; edits = edits }

-- CHANGES AS EDITS

pub changed_as : (cs : List Change) (es : Tables) → with_changes cs es ≡ with_edits (edits_of cs) es
unfolding with_changes
changed_as [] es = refl
changed_as (c ∷ cs) es = changed_as cs (make_change c es)

pub put_in_order : (cs : List Change) (ds : List Edit) → AreInOrder ds → AreInOrder (put_all cs ds)
put_in_order [] ds ordered = ordered
put_in_order (c ∷ cs) ds ordered = put_in_order cs (put place_cmp (changed_at c) c.row ds) (is_sorted-put place_cmp place_total (changed_at c) c.row ds ordered)

pub keys_each : (cs : List Change) → HaveTheirKeys (edits_of cs) → Every HasItsKey cs
keys_each [] h = tt
keys_each (c ∷ cs) h = (one c.row (h 0 (edit_of c) refl), keys_each cs (λ k. h (suc k)))
  where
    one : (o : Option (List Value)) → ForSome o (λ row. key_of row ≡ c.key) → IfSome o (λ row. key_of row ≡ c.key)
    one None x = tt
    one (Some row) x = x row refl

-- changes that are put, or not, leave changes in order that have their keys
pub kept_after : (r : Result (Unit {0}) AllocError) (cs old new : List Change) → OnOk r (edits_of new ≡ put_all cs (edits_of old)) → OnErr r (new ≡ old) →
    AreInOrder (edits_of old) → HaveTheirKeys (edits_of old) → HaveTheirKeys (put_all cs (edits_of old)) → AreInOrder (edits_of new) × HaveTheirKeys (edits_of new)
kept_after (Ok x) cs old new put err ordered keys more = (subst AreInOrder (sym put) (put_in_order cs (edits_of old) ordered), subst HaveTheirKeys (sym put) more)
kept_after (Err e) cs old new put err ordered keys more = (subst (λ (l : List Change). AreInOrder (edits_of l)) (sym err) ordered, subst (λ (l : List Change). HaveTheirKeys (edits_of l)) (sym err) keys)

pub on_ok : (r : Result (Unit {0}) AllocError) (P Q : Type 0) → (P → Q) → OnOk r P → OnOk r Q
on_ok (Ok x) P Q f h = f h
on_ok (Err e) P Q f h = tt

-- WHERE THEY END

module _ (es : Tables) where
  pub ended_gives : (schema : List TableDef) (as_ : List Answer) (ds : List Edit) (vars : List Binding) (sts : List Statement) → length sts < 1 →
      made as_ vars ds ≡ outcome_on schema es as_ ds vars sts
  ended_gives schema as_ ds vars [] few = refl
  ended_gives schema as_ ds vars (st ∷ sts) few = absurd (omega (arith, few))

  -- a statement that fails is the last
  pub failed_gives : (schema : List TableDef) (as_ : List Answer) (ds : List Edit) (vars : List Binding) (st : Statement) (sts : List Statement) (answer : Answer)
      (after : List Edit) (vs : List Binding) → HasDone (done_under schema es ds vars st) answer ds after vs → has_failed answer ≡ true →
      made (as_ ++ answer ∷ []) vs after ≡ outcome_on schema es as_ ds vars (st ∷ sts)
  failed_gives schema as_ ds vars st sts answer after vs h failed =
      let d = done_under schema es ds vars st in
      (λ i. made (as_ ++ h.answers i ∷ []) (h.variables i) (h.edits i))
      ∙ sym (ap (λ (b : Bool). if b then made (as_ ++ d.answer ∷ []) d.vars (put_all d.changes ds) else outcome_on schema es (as_ ++ d.answer ∷ []) (put_all d.changes ds) d.vars sts)
      (ap has_failed (sym h.answers) ∙ failed))

  pub failed_first : (schema : List TableDef) (as_ : List Answer) (ds : List Edit) (vars : List Binding) (l : List Statement) (st : Statement) (answer : Answer)
      (after : List Edit) (vs : List Binding) → 1 ≤ length l → st ≡ get_or l 0 st → HasDone (done_under schema es ds vars st) answer ds after vs → has_failed answer ≡ true →
      made (as_ ++ answer ∷ []) vs after ≡ outcome_on schema es as_ ds vars l
  failed_first schema as_ ds vars [] st answer after vs some is h failed = absurd (omega (arith, some))
  failed_first schema as_ ds vars (x ∷ xs) st answer after vs some is h failed =
      failed_gives schema as_ ds vars x xs answer after vs (subst (λ (z : Statement). HasDone (done_under schema es ds vars z) answer ds after vs) is h) failed

-- ALL OF THEM

module _ (laws : OfEdits) (es : Tables) where
  make_one : (c : Change) (ds : List Edit) → AreInOrder ds → make_change c (with_edits ds es) ≡ with_edits (put place_cmp (changed_at c) c.row ds) es
  make_one c ds ordered =
      laws.made (put place_cmp (changed_at c) c.row ds) es (make_change c (with_edits ds es)) (is_sorted-put place_cmp place_total (changed_at c) c.row ds ordered)
      (λ q. row_at-set q (changed_at c) c.row (with_edits ds es) ∙ by q (is_eq (place_cmp q (changed_at c)))
      ∙ sym (ap (λ o. over o (row_at q es)) (find-put place_cmp place_total q (changed_at c) c.row ds)))
    where
      by : (q : Place) (b : Bool) → cond b c.row (row_at q (with_edits ds es)) ≡ over (cond b (Some c.row) (find place_cmp q ds)) (row_at q es)
      by q true = refl
      by q false = laws.rows ds es q ordered

  pub make_all : (cs : List Change) (ds : List Edit) → AreInOrder ds → with_changes cs (with_edits ds es) ≡ with_edits (put_all cs ds) es
  unfolding with_changes
  make_all [] ds ordered = refl
  make_all (c ∷ cs) ds ordered =
      ap (with_changes cs) (make_one c ds ordered)
      ∙ make_all cs (put place_cmp (changed_at c) c.row ds) (is_sorted-put place_cmp place_total (changed_at c) c.row ds ordered)

  put_same : (cs : List Change) (ds : Edits) → (put_changes cs ds).list ≡ put_all cs ds.list
  put_same [] ds = refl
  put_same (c ∷ cs) ds = put_same cs (record { list = put place_cmp (changed_at c) c.row ds.list; sorted = is_sorted-put place_cmp place_total (changed_at c) c.row ds.list ds.sorted })

  abbrev at_tables : List Answer → List Binding → Edits → List Reach → Tables → UnitRun
  at_tables as_ vars changes reaches tables = record { answers = as_; tables = tables; vars = vars; changes = changes; reaches = reaches }

  outcomes_are : (schema : List TableDef) (sts : List Statement) (as_ : List Answer) (vars : List Binding) (ds : Edits) (reaches : List Reach) →
      outcome_on schema es as_ ds.list vars sts ≡ outcome_of_run (run_on schema sts (at_tables as_ vars ds reaches (with_edits ds.list es)))
  outcomes_are schema [] as_ vars ds reaches = refl
  outcomes_are schema (st ∷ sts) as_ vars ds reaches =
      let d = done_under schema es ds.list vars st in
      let after = with_done schema (at_tables as_ vars ds reaches (with_edits ds.list es)) st in
      by (has_failed d.answer)
      (ap (λ (l : List Edit). outcome_on schema es (as_ ++ d.answer ∷ []) l d.vars sts) (sym (put_same d.changes ds))
      ∙ outcomes_are schema sts (as_ ++ d.answer ∷ []) d.vars (put_changes d.changes ds) after.reaches
      ∙ ap (λ (t : Tables). outcome_of_run (run_on schema sts (at_tables (as_ ++ d.answer ∷ []) d.vars (put_changes d.changes ds) after.reaches t)))
      (ap (λ (l : List Edit). with_edits l es) (put_same d.changes ds) ∙ sym (make_all d.changes ds.list ds.sorted)))
    where
      at_once : List Edit → Outcome
      at_once l = let d = done_under schema es ds.list vars st in record { answers = as_ ++ d.answer ∷ []; vars = d.vars; edits = l }

      by : (b : Bool) → let d = done_under schema es ds.list vars st in let after = with_done schema (at_tables as_ vars ds reaches (with_edits ds.list es)) st in
          outcome_on schema es (as_ ++ d.answer ∷ []) (put_all d.changes ds.list) d.vars sts ≡ outcome_of_run (run_on schema sts after) →
          (if b then at_once (put_all d.changes ds.list) else outcome_on schema es (as_ ++ d.answer ∷ []) (put_all d.changes ds.list) d.vars sts)
          ≡ outcome_of_run (if b then after else run_on schema sts after)
      by true more = ap at_once (sym (put_same (done_under schema es ds.list vars st).changes ds))
      by false more = more

  pub serial_outcome : (schema : List TableDef) (vars : List Binding) (sts : List Statement) →
      outcome_on schema es [] [] vars sts ≡ outcome_of_run (serial schema es vars sts)
  serial_outcome schema vars sts = outcomes_are schema sts [] vars (record { list = []; sorted = tt }) []

  tables_are : (schema : List TableDef) (sts : List Statement) (as_ : List Answer) (vars : List Binding) (ds : Edits) (reaches : List Reach) →
      let run = run_on schema sts (at_tables as_ vars ds reaches (with_edits ds.list es)) in run.tables ≡ with_edits run.changes.list es
  tables_are schema [] as_ vars ds reaches = refl
  tables_are schema (st ∷ sts) as_ vars ds reaches =
      let d = done_under schema es ds.list vars st in
      let after = with_done schema (at_tables as_ vars ds reaches (with_edits ds.list es)) st in
      let here : after.tables ≡ with_edits after.changes.list es = make_all d.changes ds.list ds.sorted ∙ ap (λ (l : List Edit). with_edits l es) (sym (put_same d.changes ds)) in
      by (has_failed d.answer) here
      (subst (λ (t : Tables). let run = run_on schema sts (at_tables (as_ ++ d.answer ∷ []) d.vars (put_changes d.changes ds) after.reaches t) in run.tables ≡ with_edits run.changes.list es)
      (sym here) (tables_are schema sts (as_ ++ d.answer ∷ []) d.vars (put_changes d.changes ds) after.reaches))
    where
      by : (b : Bool) → let after = with_done schema (at_tables as_ vars ds reaches (with_edits ds.list es)) st in
          after.tables ≡ with_edits after.changes.list es →
          (run_on schema sts after).tables ≡ with_edits (run_on schema sts after).changes.list es →
          (if b then after else run_on schema sts after).tables ≡ with_edits (if b then after else run_on schema sts after).changes.list es
      by true here more = here
      by false here more = more

  pub serial_tables : (schema : List TableDef) (vars : List Binding) (sts : List Statement) →
      (serial schema es vars sts).tables ≡ with_edits (serial schema es vars sts).changes.list es
  serial_tables schema vars sts = tables_are schema sts [] vars (record { list = []; sorted = tt }) []
