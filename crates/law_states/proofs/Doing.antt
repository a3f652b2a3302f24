-- What a statement of an open unit reaches and does: by what is kept, and over any view of the rows in its reach.
use Rattle.salt_ast.specs.declared.trees.Statement.{Statement}
use Rattle.salt_ast.specs.declared.trees.TableDef.{TableDef}
use Rattle.law_states.proofs.OneUnit.{done-kept}
use Rattle.law_states.proofs.Overlays.{listed-rows, rows-edited, view-rows}
use Rattle.law_states.specs.Keeps.{KeepsUnit}
use Rattle.law_states.specs.Laws.{DoesAlike, DoesUnder}
use Rattle.law_states.specs.OpenUnits.{OpenUnit}
use Rattle.law_states.specs.Overlays.{AreInOrder, AreRows, Views, rows_edited, with_edits}
use Rattle.law_states.specs.Steps.{outcome_under}
use Rattle.law_story.proofs.Writes.{statement-frame}
use Rattle.salt_model.specs.After.{answer_now, changes_now, kept, reach_now}
use Rattle.salt_model.specs.Kept.{Kept, schema_of}
use Rattle.salt_model.specs.Reaches.{reach, table_for}
use Rattle.salt_model.specs.Statements.{do_at, outcome_of}
use Rattle.salt_model.specs.Tables.{Entry, Tables, rows_in}
use Rattle.salt_model.specs.Trace.{Trace}
use Rattle.salt_model.specs.declared.vars.Binding.{Binding}
use Rattle.std.proofs.Common.{ap, sym, ◌∙◌}
use Rattle.std.specs.Prelude.{List, refl, ◌≡◌}

pub reach-kept : (trace : Trace) (k : Kept) (o : OpenUnit) (st : Statement) → kept trace ≡ k → KeepsUnit trace o →
    reach_now o.unit trace st ≡ reach (schema_of k) o.vars st
reach-kept trace k o st same keeps = λ i. reach (schema_of (same i)) (keeps.vars i) st

pub answer-kept : (trace : Trace) (k : Kept) (o : OpenUnit) (st : Statement) → kept trace ≡ k → KeepsUnit trace o →
    answer_now o.unit trace st ≡ (outcome_under k o st).answer
answer-kept trace k o st same keeps = ap (λ d. d.answer) (done-kept trace k o st same keeps)

pub changes-kept : (trace : Trace) (k : Kept) (o : OpenUnit) (st : Statement) → kept trace ≡ k → KeepsUnit trace o →
    changes_now o.unit trace st ≡ (outcome_under k o st).changes
changes-kept trace k o st same keeps = ap (λ d. d.changes) (done-kept trace k o st same keeps)

-- over a view
pub done-in-view : (k : Kept) (o : OpenUnit) (st : Statement) (view : Tables) → AreInOrder o.changes →
    Views (reach (schema_of k) o.vars st) o.changes k.tables view → outcome_of (schema_of k) view o.vars st ≡ outcome_under k o st
done-in-view k o st view s h =
    statement-frame (schema_of k) view (with_edits o.changes k.tables) o.vars st
    (view-rows (reach (schema_of k) o.vars st) o.changes k.tables view s h)

outcome-is : (schema : List TableDef) (tables : Tables) (vars : List Binding) (st : Statement) →
    do_at vars st (table_for schema st) (rows_in (reach schema vars st) tables) ≡ outcome_of schema tables vars st
unfolding outcome_of
outcome-is schema tables vars st = refl

-- on a list of the rows in its reach
pub done-on-rows : (k : Kept) (o : OpenUnit) (st : Statement) (rows : List Entry) → AreInOrder o.changes →
    AreRows (reach (schema_of k) o.vars st) o.changes k.tables rows → do_at o.vars st (table_for (schema_of k) st) rows ≡ outcome_under k o st
done-on-rows k o st rows s h =
    ap (do_at o.vars st (table_for (schema_of k) st)) (listed-rows (reach (schema_of k) o.vars st) o.changes k.tables rows s h)
    ∙ outcome-is (schema_of k) (with_edits o.changes k.tables) o.vars st

-- on the rows in its reach, with the edits there made
pub done-on-reach : (k : Kept) (o : OpenUnit) (st : Statement) → AreInOrder o.changes →
    do_at o.vars st (table_for (schema_of k) st) (rows_edited (reach (schema_of k) o.vars st) o.changes k.tables) ≡ outcome_under k o st
done-on-reach k o st s =
    ap (do_at o.vars st (table_for (schema_of k) st)) (sym (rows-edited (reach (schema_of k) o.vars st) o.changes k.tables s))
    ∙ outcome-is (schema_of k) (with_edits o.changes k.tables) o.vars st

pub does-under : (trace : Trace) (k : Kept) (o : OpenUnit) (st : Statement) → kept trace ≡ k → KeepsUnit trace o → DoesUnder trace k o st
does-under trace k o st same keeps = record { reaches = reach-kept trace k o st same keeps; answers = answer-kept trace k o st same keeps; changes = changes-kept trace k o st same keeps }

pub does-alike : (k : Kept) (o : OpenUnit) (st : Statement) → AreInOrder o.changes → DoesAlike k o st
does-alike k o st s = record { in_views = λ view h. done-in-view k o st view s h; on_reach = done-on-reach k o st s; on_rows = λ rows h. done-on-rows k o st rows s h }
