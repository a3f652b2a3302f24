-- Rows of a page, as they are spelled, are loaded one behind another.
use Rattle.salt_bytes.specs.Page.{TableRow}
use Rattle.salt_directory.specs.Loading.{is_row_in, rows_within}
use Rattle.salt_loaded.specs.Rows.{RowsOf, row_within, with_rows}
use Rattle.salt_ranges.specs.Ranges.{has_key}
use Rattle.salt_ranges.specs.declared.range.KeyRange.{KeyRange}
use Rattle.salt_values.specs.Value.{key_of}
use Rattle.salt_values.specs.declared.value.Value.{Value}
use Rattle.std.proofs.Common.{Bool, List, Some, [], ap, append_assoc, cond, false, filter, map, refl, sym, take, true, ℕ, ◌&&◌, ◌+◌, ◌++◌, ◌==◌, ◌≡◌, ◌∙◌, ◌∷◌}
use Rattle.std.proofs.lemmas.List.Elements.{filter-append}
use Rattle.std.proofs.lemmas.List.{append-nil, map-append, take_more}
use Rattle.std.proofs.lemmas.Option.{get_or_from_slice_get, slice_get_within}
use Rattle.std.specs.Prelude.{slice_get}

pub with_twice : (a b : List (List Value)) (r : RowsOf) → with_rows b (with_rows a r) ≡ with_rows (a ++ b) r
with_twice a b r = λ i. record { table = r.table; rows = append_assoc r.rows a b i }

pub with_none : (r : RowsOf) → with_rows [] r ≡ r
with_none r = λ i. record { table = r.table; rows = append-nil r.rows i }

module _ (t : ℕ) (range : KeyRange) where
  pub within_append : (xs ys : List TableRow) → rows_within t range (xs ++ ys) ≡ rows_within t range xs ++ rows_within t range ys
  within_append xs ys = ap (map (λ (r : TableRow). r.row)) (filter-append (is_row_in t range) xs ys) ∙ map-append (λ (r : TableRow). r.row) (filter (is_row_in t range) xs) (filter (is_row_in t range) ys)

  -- a row of the table
  pub within_one : (r : TableRow) → (t == r.table) ≡ true → row_within range r.row ≡ rows_within t range (r ∷ [])
  within_one r here = by (t == r.table) (has_key range (key_of r.row)) here
    where
      by : (a b : Bool) → a ≡ true → cond b (r.row ∷ []) [] ≡ map (λ (s : TableRow). s.row) (cond (a && b) (r ∷ []) [])
      by true true h = refl
      by true false h = refl
      by false b h = cc

  pub within_none : (r : TableRow) → (t == r.table) ≡ false → rows_within t range (r ∷ []) ≡ []
  within_none r other = ap (λ a. map (λ (s : TableRow). s.row) (cond (a && has_key range (key_of r.row)) (r ∷ []) [])) other

  -- so far, and with one row more
  pub loaded_more : (start : RowsOf) (rows : List TableRow) (i : ℕ) (r : TableRow) (now new : RowsOf) → slice_get rows i ≡ Some r → now ≡ with_rows (rows_within t range (take i rows)) start
      → new ≡ with_rows (rows_within t range (r ∷ [])) now → new ≡ with_rows (rows_within t range (take (i + 1) rows)) start
  loaded_more start rows i r now new at so more =
      more ∙ ap (λ (s : RowsOf). with_rows (rows_within t range (r ∷ [])) s) so
      ∙ with_twice (rows_within t range (take i rows)) (rows_within t range (r ∷ [])) start
      ∙ ap (λ (l : List (List Value)). with_rows l start) (sym (within_append (take i rows) (r ∷ [])) ∙ ap (rows_within t range) (sym front))
    where
      front : take (i + 1) rows ≡ take i rows ++ r ∷ []
      front = take_more rows i r (slice_get_within rows i r at) ∙ ap (λ (s : TableRow). take i rows ++ s ∷ []) (get_or_from_slice_get rows i r r at)
