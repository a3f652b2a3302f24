-- The next place of a range in a directory is that of the next row of the tables.
use Rattle.salt_directory.proofs.Placed.{first_there, found_filtered}
use Rattle.salt_directory.specs.Directories.{IsNextPlace, first_behind, is_in, key_alone, places_in}
use Rattle.salt_directory.specs.Pages.{page_of}
use Rattle.salt_eval.proofs.InOrder.{in_order, row_at-tables_of, tables_of-list}
use Rattle.salt_eval.proofs.Nexts.{next-found, next-none, next-past}
use Rattle.salt_eval.specs.Scans.{IsKeyed}
use Rattle.salt_eval.specs.Views.{is_next, next_row, start_of, tables_of}
use Rattle.salt_model.specs.Tables.{Entry, Tables, place, place_cmp, row_at}
use Rattle.salt_model.specs.Words.{first_of_list}
use Rattle.salt_model.specs.declared.places.Place.{Place}
use Rattle.salt_ranges.specs.Ranges.{has_key}
use Rattle.salt_ranges.specs.declared.range.KeyRange.{KeyRange}
use Rattle.salt_stands.proofs.Booleans.{left}
use Rattle.salt_stands.proofs.Places.{equal_is, place_same}
use Rattle.salt_values.specs.Value.{key_of}
use Rattle.salt_values.specs.declared.value.Value.{Value}
use Rattle.std.proofs.Common.{Bool, List, None, Option, Some, [], ap, cond, eqb-true, false, filter, refl, subst, sym, true, ℕ, ◌==◌, ◌≡◌, ◌∙◌, ◌∷◌}
use Rattle.std.specs.BTreeMap.{is_at}
use Rattle.std.specs.BTreeMap.Range.{entries_between, range_contains}
use Rattle.std.specs.FinMap.Entries.{where_key}
use Rattle.std.specs.List.Sorted.{IsStrictlySortedBy}
use Rattle.std.specs.Map.{keys_of, lookup}
use Rattle.std.specs.Ordering.{is_eq}
use Rattle.std.specs.Prelude.{IfSome, map, option_map}
use Rattle.std.specs.declared.ops.Bound.TheVariants.{Unbounded}

abbrev key_in : {X : Type 0} → Option (Place × X) → Option Place
key_in o = option_map (λ e. e.0) o

-- of lists with the same keys, the first that passes has the same key
first_keys : {X Y : Type 0} (p : Place → Bool) (ds : List (Place × X)) (es : List (Place × Y)) → keys_of ds ≡ keys_of es → key_in (first_of_list (filter (λ d. p d.0) ds)) ≡ key_in (first_of_list (filter (λ e. p e.0) es))
first_keys p [] [] same = refl
first_keys p [] (e ∷ es) same = cc
first_keys p (d ∷ ds) [] same = cc
first_keys p (d ∷ ds) (e ∷ es) same =
    ap (λ (k : Place). key_in (first_of_list (cond (p k) (d ∷ filter (λ f. p f.0) ds) (filter (λ f. p f.0) ds)))) head
    ∙ by (p e.0) (first_keys p ds es tail)
  where
    head : d.0 ≡ e.0
    head = cc

    tail : keys_of ds ≡ keys_of es
    tail = cc

    by : (b : Bool) → key_in (first_of_list (filter (λ f. p f.0) ds)) ≡ key_in (first_of_list (filter (λ f. p f.0) es))
        → key_in (first_of_list (cond b (d ∷ filter (λ f. p f.0) ds) (filter (λ f. p f.0) ds))) ≡ key_in (first_of_list (cond b (e ∷ filter (λ f. p f.0) es) (filter (λ f. p f.0) es)))
    by true h = ap (λ (k : Place). Some k) head
    by false h = h

-- THE NEXT ROW
module _ (table : ℕ) (range : KeyRange) (after : Option Value) (directory : List (Place × ℕ)) (t : Tables) (keys : keys_of directory ≡ keys_of t.list) where
  alike : key_in (first_behind table range after directory) ≡ key_in (first_of_list (entries_between place_cmp (start_of table range.lo after) Unbounded t.list))
  alike = first_keys (λ q. range_contains place_cmp (start_of table range.lo after) Unbounded q) directory t.list keys

  shown : next_row table range after (tables_of t.list) ≡ next_row table range after t
  shown = ap (λ (es : List Entry). option_map (λ e. e.1) (first_of_list (where_key place_cmp (is_next table range after) es))) (tables_of-list t.list t.sorted)

  none_next : (o : Option (Place × ℕ)) → first_behind table range after directory ≡ o → IsNextPlace table range o None → (r : Option Entry) → first_of_list (entries_between place_cmp (start_of table range.lo after) Unbounded t.list) ≡ r → key_in o ≡ key_in r → None ≡ next_row table range after t
  none_next None is none None row same = next-none table range after t.list t.sorted row ∙ shown
  none_next None is none (Some e) row same = cc
  none_next (Some d) is none None row same = cc
  none_next (Some d) is none (Some e) row same =
      let own : d.0 ≡ e.0 = cc in
      next-past table range after t.list t.sorted e row (ap (is_in table range) (sym own) ∙ none) ∙ shown

  some_next : (o : Option (Place × ℕ)) → first_behind table range after directory ≡ o → (found : Value × ℕ) → IsNextPlace table range o (Some found) → (r : Option Entry) → first_of_list (entries_between place_cmp (start_of table range.lo after) Unbounded t.list) ≡ r → key_in o ≡ key_in r
      → (row : List Value) → Some row ≡ row_at (place table found.0) t → Some row ≡ next_row table range after t
  some_next None is found next r row same own stands = absurd next
  some_next (Some d) is found next None row same own stands = cc
  some_next (Some d) is found next (Some e) row same own stands =
      let key : d.0 ≡ e.0 = cc in
      let in_table : (table == d.0.table) ≡ true = left (table == d.0.table) (has_key range d.0.key) next.0 in
      let at : place table found.0 ≡ e.0 = (λ i. place (eqb-true table d.0.table in_table i) (next.1 i)) ∙ key in
      stands
      ∙ ap (λ (q : Place). row_at q t) at
      ∙ found_filtered (λ q. range_contains place_cmp (start_of table range.lo after) Unbounded q) t.list t.sorted 0 e (first_there (entries_between place_cmp (start_of table range.lo after) Unbounded t.list) e row)
      ∙ next-found table range after t.list t.sorted e row (ap (is_in table range) (sym key) ∙ next.0) ∙ shown

  pub no_next : IsNextPlace table range (first_behind table range after directory) None → None ≡ next_row table range after t
  no_next none = none_next (first_behind table range after directory) refl none (first_of_list (entries_between place_cmp (start_of table range.lo after) Unbounded t.list)) refl alike

  pub the_next : (found : Value × ℕ) → IsNextPlace table range (first_behind table range after directory) (Some found) → (row : List Value) → Some row ≡ row_at (place table found.0) t → Some row ≡ next_row table range after t
  the_next found next row stands = some_next (first_behind table range after directory) refl found next (first_of_list (entries_between place_cmp (start_of table range.lo after) Unbounded t.list)) refl alike row stands

-- THE KEYS ALONE

same_keys : (es : List (Place × ℕ)) → keys_of (map key_alone es) ≡ keys_of es
same_keys [] = refl
same_keys (e ∷ es) = ap (λ (ks : List Place). e.0 ∷ ks) (same_keys es)

places_keys : (es : List (Place × ℕ)) → IsStrictlySortedBy place_cmp (keys_of es) → keys_of es ≡ keys_of (places_in es).list
places_keys es ordered =
    let sorted = in_order place_cmp (map key_alone es) (subst (IsStrictlySortedBy place_cmp) (sym (same_keys es)) ordered) in
    sym (same_keys es) ∙ ap (λ (rows : List Entry). keys_of rows) (sym (tables_of-list (map key_alone es) sorted))

at_place : (q : Place) (es : List (Place × ℕ)) (page : ℕ) → page_of es q ≡ Some page → lookup (is_at (place_cmp q)) (map key_alone es) ≡ Some (q.key ∷ [])
at_place q [] page is = cc
at_place q (e ∷ es) page is = by (is_eq (place_cmp q e.0)) refl is (λ found. at_place q es page found)
  where
    by : (b : Bool) → is_eq (place_cmp q e.0) ≡ b → cond b (Some e.1) (page_of es q) ≡ Some page
        → (page_of es q ≡ Some page → lookup (is_at (place_cmp q)) (map key_alone es) ≡ Some (q.key ∷ [])) → cond b (Some (e.0.key ∷ [])) (lookup (is_at (place_cmp q)) (map key_alone es)) ≡ Some (q.key ∷ [])
    by true here found rest = ap (λ (p : Place). Some (p.key ∷ [])) (sym (place_same q e.0 (equal_is (place_cmp q e.0) here)))
    by false there found rest = rest found

-- the key that is next in a directory is that of the next of its places
pub next_key : (table : ℕ) (range : KeyRange) (after : Option Value) (es : List (Place × ℕ)) → IsStrictlySortedBy place_cmp (keys_of es) → (found : Option (Value × ℕ)) → IsNextPlace table range (first_behind table range after es) found
    → IfSome found (λ f. page_of es (place table f.0) ≡ Some f.1) → option_map (λ f. f.0) found ≡ option_map key_of (next_row table range after (places_in es))
next_key table range after es ordered None next there = ap (option_map key_of) (no_next table range after es (places_in es) (places_keys es ordered) next)
next_key table range after es ordered (Some f) next there =
    ap (option_map key_of)
    (the_next table range after es (places_in es) (places_keys es ordered) f next (f.0 ∷ []) (sym (row_at-tables_of (place table f.0) (map key_alone es) ∙ at_place (place table f.0) es f.1 there)))

-- each of them stands at the place of its key
keyed_at : (q : Place) (es : List (Place × ℕ)) → IfSome (lookup (is_at (place_cmp q)) (map key_alone es)) (λ row. key_of row ≡ q.key)
keyed_at q [] = tt
keyed_at q (e ∷ es) = by (is_eq (place_cmp q e.0)) refl (keyed_at q es)
  where
    by : (b : Bool) → is_eq (place_cmp q e.0) ≡ b → IfSome (lookup (is_at (place_cmp q)) (map key_alone es)) (λ row. key_of row ≡ q.key)
        → IfSome (cond b (Some (e.0.key ∷ [])) (lookup (is_at (place_cmp q)) (map key_alone es))) (λ row. key_of row ≡ q.key)
    by true here rest = ap (λ (p : Place). p.key) (sym (place_same q e.0 (equal_is (place_cmp q e.0) here)))
    by false there rest = rest

pub places_keyed : (es : List (Place × ℕ)) → IsKeyed (places_in es)
places_keyed es q = subst (λ o. IfSome o (λ row. key_of row ≡ q.key)) (sym (row_at-tables_of q (map key_alone es))) (keyed_at q es)
