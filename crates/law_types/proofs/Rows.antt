-- Tables with changes that fit have rows that fit.
use Rattle.salt_ast.specs.declared.trees.TableDef.{TableDef}
use Rattle.law_story.proofs.Every.{every-filter}
use Rattle.law_story.proofs.Places.{place_same}
use Rattle.salt_model.specs.Tables.{Edits, Entry, Tables, changed_at, is_other, place_cmp, put_change, put_changes, set_row, with_changes}
use Rattle.salt_model.specs.Words.{Every}
use Rattle.salt_model.specs.declared.places.Place.{Place}
use Rattle.law_types.specs.Typed.{AreChangesOf, AreEditsOf, AreRowsOf, FitsAt, IsRowAt}
use Rattle.salt_values.specs.declared.change.Change.{Change}
use Rattle.salt_values.specs.declared.value.Value.{Value}
use Rattle.std.proofs.Common.{subst}
use Rattle.std.specs.FinMap.Entries.{by_order, put}
use Rattle.std.specs.Prelude.{List, None, Option, Some, [], refl, ◌∷◌, ◌≡◌}
use Rattle.std.specs.declared.cmp.Ordering.TheVariants.{Equal, Greater, Less}
use Rattle.std.specs.declared.cmp.Ordering.{Ordering}

-- what holds at each place holds with one more
pub every-put : {X : Type 0} (P : Place → X → Type 0) (p : Place) (x : X) (es : List (Place × X)) → P p x → Every (λ (e : Place × X). P e.0 e.1) es →
    Every (λ (e : Place × X). P e.0 e.1) (put place_cmp p x es)
every-put P p x [] h es = (h, tt)
every-put {X} P p x (e ∷ es) h all = by (place_cmp p e.0) refl (every-put P p x es h all.1)
  where
    by : (o : Ordering) → place_cmp p e.0 ≡ o → Every (λ (e : Place × X). P e.0 e.1) (put place_cmp p x es) →
        Every (λ (e : Place × X). P e.0 e.1) (by_order o ((p, x) ∷ e ∷ es) ((e.0, x) ∷ es) (e ∷ put place_cmp p x es))
    by Less q more = (h, all)
    by Equal q more = (subst (λ (r : Place). P r x) (place_same p e.0 q) h, all.1)
    by Greater q more = (all.0, more)

pub row-set : (schema : List TableDef) (p : Place) (row : Option (List Value)) (es : Tables) → FitsAt schema p row → AreRowsOf schema es → AreRowsOf schema (set_row p row es)
row-set schema p None es h all = every-filter (λ (e : Entry). IsRowAt schema e.0 e.1) (λ (e : Entry). is_other p e.0) es.list all
row-set schema p (Some row) es h all = every-put (IsRowAt schema) p row es.list h all

pub rows-changed : (schema : List TableDef) (cs : List Change) (es : Tables) → AreChangesOf schema cs → AreRowsOf schema es → AreRowsOf schema (with_changes cs es)
unfolding with_changes
rows-changed schema [] es h all = all
rows-changed schema (c ∷ cs) es h all = rows-changed schema cs _ h.1 (row-set schema (changed_at c) c.row es h.0 all)

pub edits-put : (schema : List TableDef) (cs : List Change) (ds : Edits) → AreChangesOf schema cs → AreEditsOf schema ds.list → AreEditsOf schema (put_changes cs ds).list
edits-put schema [] ds h all = all
edits-put schema (c ∷ cs) ds h all = edits-put schema cs (put_change c ds) h.1 (every-put (FitsAt schema) (changed_at c) c.row ds.list h.0 all)
