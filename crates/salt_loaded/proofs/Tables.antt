-- Rows in order, as the tables that they make.
use Rattle.salt_loaded.proofs.Counted.{entries_counted, mapped_long}
use Rattle.salt_loaded.proofs.Ordered.{sorted_climb}
use Rattle.salt_loaded.proofs.Rising.{apart_moved, climbs, listed, rising_apart, tables_moved, twins_meet}
use Rattle.salt_loaded.specs.Loaded.{CountsRows, IsOfTable, rows_of}
use Rattle.salt_loaded.specs.Order.{spot_order}
use Rattle.salt_loaded.specs.Rows.{IsLoaded, are_apart, entries_in, have_twins, is_rising, tables_in}
use Rattle.salt_loaded.specs.Spots.{AreSpots, IsSpot, row_from, rows_at}
use Rattle.salt_loaded.specs.declared.order.Spot.{Spot}
use Rattle.salt_model.specs.Tables.{Entry}
use Rattle.salt_values.specs.Value.{key_of}
use Rattle.salt_values.specs.declared.value.Value.{Value}
use Rattle.std.proofs.Common.{Bool, List, [], ap, arith, false, length, refl, subst, suc, sym, true, zero, ℕ, ◌≡◌, ◌≤◌, ◌∙◌, ◌∷◌}
use Rattle.std.proofs.lemmas.List.Elements.{All-from_recursion, recursion_from_All}
use Rattle.std.proofs.lemmas.List.Sorted.{All-permutation, IsPermutation-map, IsPermutation-sym}
use Rattle.std.specs.List.Sorted.{IsPartitionPoint, IsPermutation, IsSorted}
use Rattle.std.specs.Prelude.{map, slice_get}

-- ---- what was loaded

mapped_back : (t : ℕ) (rows : List (List Value)) → map (λ (e : Entry). e.1) (entries_in t rows) ≡ rows
mapped_back t [] = refl
mapped_back t (r ∷ rows) = ap (λ l. r ∷ l) (mapped_back t rows)

module _ (t : ℕ) (bytes : List ℕ) (spots : List Spot) (are : IsLoaded bytes spots) where
  abbrev pub rows : List (List Value)
  rows = rows_at bytes spots

  pub list_is : (tables_in t rows).list ≡ entries_in t rows
  list_is = listed t rows are.rising

  -- the rows as they stand
  pub rows_are : rows_of (tables_in t rows) ≡ rows
  rows_are = ap (map (λ (e : Entry). e.1)) list_is ∙ mapped_back t rows

  pub as_many : length spots ≡ length (tables_in t rows).list
  as_many = sym (ap length list_is ∙ mapped_long _ rows ∙ mapped_long (λ (s : Spot). row_from bytes s.at) spots)

  of_table : (xs : List (List Value)) (i : ℕ) → IsOfTable (slice_get (entries_in t xs) i) t
  of_table [] i = tt
  of_table (x ∷ xs) zero = refl
  of_table (x ∷ xs) (suc i) = of_table xs i

  pub table_is : (i : ℕ) → IsOfTable (slice_get (tables_in t rows).list i) t
  table_is i = subst (λ es. IsOfTable (slice_get es i) t) (sym list_is) (of_table rows i)

  pub counts : (p : Value → Bool) (n : ℕ) → n ≤ length spots → IsPartitionPoint (λ r. p (key_of r) ≡ true) (λ r. p (key_of r) ≡ false) rows n → CountsRows p (tables_in t rows) n
  counts p n within point =
      subst (λ es. IsPartitionPoint (λ (e : Entry). p e.0.key ≡ true) (λ (e : Entry). p e.0.key ≡ false) es n) (sym list_is)
      (entries_counted t p rows n (omega (arith, within, mapped_long (λ (s : Spot). row_from bytes s.at) spots)) point)

-- ---- what was put in order

module _ (bytes : List ℕ) (olds news : List Spot) (are : AreSpots bytes olds) (moved : IsPermutation olds news) where
  pub are_moved : AreSpots bytes news
  are_moved = recursion_from_All (IsSpot bytes) news (All-permutation (IsSpot bytes) olds news moved (All-from_recursion (IsSpot bytes) olds are))

  rows_moved : IsPermutation (rows_at bytes olds) (rows_at bytes news)
  rows_moved = IsPermutation-map (λ (s : Spot). row_from bytes s.at) olds news moved

  pub twins_left : have_twins (rows_at bytes news) ≡ true → are_apart (rows_at bytes olds) ≡ false
  twins_left twins = by (are_apart (rows_at bytes olds)) refl
    where
      by : (b : Bool) → are_apart (rows_at bytes olds) ≡ b → b ≡ false
      by true e =
          let apart : are_apart (rows_at bytes news) ≡ true = apart_moved (rows_at bytes olds) (rows_at bytes news) rows_moved e in
          let meet : are_apart (rows_at bytes news) ≡ false = twins_meet (rows_at bytes news) twins in
          sym apart ∙ meet
      by false e = refl

  module _ (sorted : IsSorted (spot_order bytes) news) (apart : have_twins (rows_at bytes news) ≡ false) where
    rising : is_rising (rows_at bytes news) ≡ true
    rising = climbs (rows_at bytes news) (sorted_climb bytes news are_moved sorted) apart

    pub loaded : IsLoaded bytes news
    loaded = record { each = are_moved; rising = rising }

    pub tables_kept : (t : ℕ) → tables_in t (rows_at bytes news) ≡ tables_in t (rows_at bytes olds)
    tables_kept t = sym (tables_moved t (rows_at bytes olds) (rows_at bytes news) rows_moved (rising_apart (rows_at bytes news) rising))

    pub apart_before : are_apart (rows_at bytes olds) ≡ true
    apart_before = apart_moved (rows_at bytes news) (rows_at bytes olds) (IsPermutation-sym (rows_at bytes olds) (rows_at bytes news) rows_moved) (rising_apart (rows_at bytes news) rising)
