-- Statements done one after another under a unit's own edits answer as they do on tables that change.
use Rattle.salt_ast.specs.declared.trees.Statement.{Statement}
use Rattle.salt_ast.specs.declared.trees.TableDef.{TableDef}
use Rattle.salt_audit.specs.Replaying.{answers_on, done_under}
use Rattle.law_states.specs.Overlays.{AreInOrder, Edit, over, put_all, row_edited, with_edits}
use Rattle.law_story.proofs.Places.{row_at-set}
use Rattle.salt_model.specs.Statements.{UnitRun, has_failed, run_on, serial, with_done}
use Rattle.salt_model.specs.Tables.{Edits, Tables, changed_at, make_change, place_cmp, place_total, row_at, with_changes}
use Rattle.salt_model.specs.declared.events.Answer.{Answer}
use Rattle.salt_model.specs.declared.locks.Reach.{Reach}
use Rattle.salt_model.specs.declared.places.Place.{Place}
use Rattle.salt_model.specs.declared.vars.Binding.{Binding}
use Rattle.salt_values.specs.declared.change.Change.{Change}
use Rattle.std.proofs.Common.{Bool, List, Some, [], ap, append-nil, append_assoc, cond, false, if◌then◌else◌, refl, sym, true, ◌++◌, ◌∙◌, ◌∷◌, ◌≡◌}
use Rattle.std.specs.FinMap.Entries.{find, find-put, is_sorted-put, put}
use Rattle.std.specs.Ordering.{is_eq}

pub record OfEdits : Type 0 where
  pub rows : (ds : List Edit) (es : Tables) (q : Place) → AreInOrder ds → row_at q (with_edits ds es) ≡ row_edited ds es q
  pub made : (ds : List Edit) (es now : Tables) → AreInOrder ds → ((q : Place) → row_at q now ≡ row_edited ds es q) → now ≡ with_edits ds es

module _ (laws : OfEdits) (es : Tables) where
  make_one : (c : Change) (ds : List Edit) → AreInOrder ds → make_change c (with_edits ds es) ≡ with_edits (put place_cmp (changed_at c) c.row ds) es
  make_one c ds ordered =
      laws.made (put place_cmp (changed_at c) c.row ds) es (make_change c (with_edits ds es)) (is_sorted-put place_cmp place_total (changed_at c) c.row ds ordered)
      (λ q. row_at-set q (changed_at c) c.row (with_edits ds es) ∙ by q (is_eq (place_cmp q (changed_at c)))
      ∙ sym (ap (λ o. over o (row_at q es)) (find-put place_cmp place_total q (changed_at c) c.row ds)))
    where
      by : (q : Place) (b : Bool) → cond b c.row (row_at q (with_edits ds es)) ≡ over (cond b (Some c.row) (find place_cmp q ds)) (row_at q es)
      by q true = refl
      by q false = laws.rows ds es q ordered

  make_all : (cs : List Change) (ds : List Edit) → AreInOrder ds → with_changes cs (with_edits ds es) ≡ with_edits (put_all cs ds) es
  unfolding with_changes
  make_all [] ds ordered = refl
  make_all (c ∷ cs) ds ordered =
      ap (with_changes cs) (make_one c ds ordered)
      ∙ make_all cs (put place_cmp (changed_at c) c.row ds) (is_sorted-put place_cmp place_total (changed_at c) c.row ds ordered)

  put_in_order : (cs : List Change) (ds : List Edit) → AreInOrder ds → AreInOrder (put_all cs ds)
  put_in_order [] ds ordered = ordered
  put_in_order (c ∷ cs) ds ordered = put_in_order cs (put place_cmp (changed_at c) c.row ds) (is_sorted-put place_cmp place_total (changed_at c) c.row ds ordered)

  abbrev at_tables : List Answer → List Binding → Edits → List Reach → Tables → UnitRun
  at_tables as_ vars changes reaches tables = record { answers = as_; tables = tables; vars = vars; changes = changes; reaches = reaches }

  answers_are : (schema : List TableDef) (sts : List Statement) (as_ : List Answer) (ds : List Edit) (vars : List Binding) (changes : Edits) (reaches : List Reach) → AreInOrder ds →
      (run_on schema sts (at_tables as_ vars changes reaches (with_edits ds es))).answers ≡ as_ ++ answers_on schema es ds vars sts
  answers_are schema [] as_ ds vars changes reaches ordered = sym (append-nil as_)
  answers_are schema (st ∷ sts) as_ ds vars changes reaches ordered =
      let d = done_under schema es ds vars st in
      let after = with_done schema (at_tables as_ vars changes reaches (with_edits ds es)) st in
      by (has_failed d.answer)
      (ap (λ t. (run_on schema sts (at_tables (as_ ++ d.answer ∷ []) d.vars after.changes after.reaches t)).answers) (make_all d.changes ds ordered)
      ∙ answers_are schema sts (as_ ++ d.answer ∷ []) (put_all d.changes ds) d.vars after.changes after.reaches (put_in_order d.changes ds ordered)
      ∙ append_assoc as_ (d.answer ∷ []) (answers_on schema es (put_all d.changes ds) d.vars sts))
    where
      by : (b : Bool) → let d = done_under schema es ds vars st in let after = with_done schema (at_tables as_ vars changes reaches (with_edits ds es)) st in
          (run_on schema sts after).answers ≡ as_ ++ d.answer ∷ answers_on schema es (put_all d.changes ds) d.vars sts →
          (if b then after else run_on schema sts after).answers ≡ as_ ++ d.answer ∷ (if b then [] else answers_on schema es (put_all d.changes ds) d.vars sts)
      by true more = refl
      by false more = more

  pub serial_answers : (schema : List TableDef) (vars : List Binding) (sts : List Statement) → answers_on schema es [] vars sts ≡ (serial schema es vars sts).answers
  serial_answers schema vars sts = sym (answers_are schema sts [] [] vars (record { list = []; sorted = tt }) [] tt)
