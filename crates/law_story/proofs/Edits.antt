-- The tables after statements are those before with the changes that they collect.
use Rattle.salt_ast.specs.declared.trees.Statement.{Statement}
use Rattle.salt_ast.specs.declared.trees.TableDef.{TableDef}
use Rattle.law_story.proofs.Places.{row_at-set}
use Rattle.salt_model.specs.After.{kept, run_of, tables_after, vars_of}
use Rattle.salt_model.specs.Kept.{schema_of}
use Rattle.salt_model.specs.Trace.{Trace, ◌says◌}
use Rattle.salt_model.specs.Units.{done_of}
use Rattle.salt_model.specs.Statements.{UnitRun, doing, has_failed, run_from, run_on, with_done}
use Rattle.salt_model.specs.Tables.{Edits, Tables, changed_at, make_change, place_cmp, place_total, put_change, put_changes, row_at, row_under, with_changes}
use Rattle.salt_model.specs.declared.events.End.TheVariants.{Committed}
use Rattle.salt_model.specs.declared.events.Event.TheVariants.{Ended}
use Rattle.salt_model.specs.declared.places.Place.{Place}
use Rattle.salt_values.specs.declared.change.Change.{Change}
use Rattle.salt_values.specs.declared.id.Id.{Id}
use Rattle.std.proofs.Common.{ap, sym, ◌∙◌}
use Rattle.std.specs.FinMap.Entries.{find, find-put}
use Rattle.std.specs.Ordering.{is_eq}
use Rattle.std.specs.Prelude.{Bool, List, None, Some, [], cond, false, refl, true, ℕ, ◌∷◌, ◌≡◌}

pub edits-row : (cs : List Change) (ds : Edits) (es now : Tables) (q : Place) → row_at q now ≡ row_under ds es q → row_at q (with_changes cs now) ≡ row_under (put_changes cs ds) es q
unfolding with_changes
edits-row [] ds es now q h = h
edits-row (c ∷ cs) ds es now q h =
    edits-row cs (put_change c ds) es (make_change c now) q (row_at-set q (changed_at c) c.row now ∙ by (is_eq (place_cmp q (changed_at c))) ∙ sym (ap (λ o. elim o [ None ↦ row_at q es | Some row ↦ row ]) (find-put place_cmp place_total q (changed_at c) c.row ds.list)))
  where
    by : (b : Bool) → cond b c.row (row_at q now) ≡ elim (cond b (Some c.row) (find place_cmp q ds.list)) [ None ↦ row_at q es | Some row ↦ row ]
    by true = refl
    by false = h

abbrev pub Told : Tables → UnitRun → Type 0
Told es r = (q : Place) → row_at q r.tables ≡ row_under r.changes es q

pub run-told : (schema : List TableDef) (sts : List Statement) (es : Tables) (r : UnitRun) → Told es r → Told es (run_on schema sts r)
run-told schema [] es r h = h
run-told schema (st ∷ sts) es r h = by (has_failed (doing schema r st).answer) step (run-told schema sts es (with_done schema r st) step)
  where
    step : Told es (with_done schema r st)
    step q = edits-row (doing schema r st).changes r.changes es r.tables q (h q)

    by : (b : Bool) → Told es (with_done schema r st) → Told es (run_on schema sts (with_done schema r st)) → Told es (cond b (with_done schema r st) (run_on schema sts (with_done schema r st)))
    by true x y = x
    by false x y = y

-- a unit's commit makes of the tables what its changes say
pub commit-told : (trace : Trace) (u : Id) (n : ℕ) (q : Place) → row_at q (tables_after (trace says Ended u (Committed n))) ≡ row_under (run_of u trace).changes (tables_after trace) q
commit-told trace u n q = run-told (schema_of (kept trace)) (done_of u trace) (tables_after trace) (run_from (tables_after trace) (vars_of u trace)) (λ p. refl) q
