-- Rows that are loaded stand under their keys.
use Rattle.salt_ast.specs.declared.trees.TableDef.{TableDef}
use Rattle.salt_commit.specs.Loads.{AreRowsOf, IsRowAt}
use Rattle.salt_eval.specs.Scans.{IsKeyed}
use Rattle.salt_model.specs.Tables.{Entry, Tables, place_cmp, row_at}
use Rattle.salt_model.specs.Words.{Every}
use Rattle.salt_model.specs.declared.places.Place.{Place}
use Rattle.salt_stands.proofs.Places.{place_same}
use Rattle.salt_values.specs.Value.{key_of}
use Rattle.salt_values.specs.declared.value.Value.{Value}
use Rattle.std.proofs.Common.{Equal, Greater, Less, List, None, Option, Ordering, Some, [], refl, subst, sym, ◌≡◌, ◌∷◌}
use Rattle.std.specs.Ordering.{is_eq}
use Rattle.std.specs.Prelude.{IfSome, cond}
use Rattle.std.specs.FinMap.Entries.{find}

-- what is found has what each entry has
found_entry : (P : Place → List Value → Type 0) (es : List Entry) (q : Place) (row : List Value) → Every (λ (e : Entry). P e.0 e.1) es → find place_cmp q es ≡ Some row → P q row
found_entry P [] q row all e = absurd cc
found_entry P (x ∷ es) q row all e = by (place_cmp q x.0) refl e (found_entry P es q row all.1)
  where
    by : (o : Ordering) → place_cmp q x.0 ≡ o → cond (is_eq o) (Some x.1) (find place_cmp q es) ≡ Some row → (find place_cmp q es ≡ Some row → P q row) → P q row
    by Equal at e' more = let same : x.1 ≡ row = cc e' in subst (P q) same (subst (λ p. P p x.1) (sym (place_same q x.0 at)) all.0)
    by Less at e' more = more e'
    by Greater at e' more = more e'

-- rows that meet their tables stand under their keys
pub rows_keyed : (schema : List TableDef) (es : Tables) → AreRowsOf schema es → IsKeyed es
rows_keyed schema es rows p = by (row_at p es) refl
  where
    by : (o : Option (List Value)) → row_at p es ≡ o → IfSome o (λ row. key_of row ≡ p.key)
    by None at = tt
    by (Some row) at = let is : IsRowAt schema p row = found_entry (IsRowAt schema) es.list p row rows at in sym is.1
