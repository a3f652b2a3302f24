-- How many of rows in order pass a test.
use Rattle.salt_bytes.specs.Values.{take_row}
use Rattle.salt_loaded.proofs.Fronts.{same_some, taken, to_end}
use Rattle.salt_loaded.proofs.Ordered.{against_is}
use Rattle.salt_loaded.proofs.Rising.{is_above_key}
use Rattle.salt_loaded.specs.Loaded.{CountsRows}
use Rattle.salt_loaded.specs.Order.{spot_against}
use Rattle.salt_loaded.specs.Rows.{IsLoaded, entries_in, is_rising}
use Rattle.salt_loaded.specs.Spots.{AreSpots, IsSpot, row_from, rows_at}
use Rattle.salt_loaded.specs.declared.order.Spot.{Spot}
use Rattle.salt_model.specs.Tables.{Entry, Tables, place}
use Rattle.salt_stands.proofs.Booleans.{left, right}
use Rattle.salt_values.specs.Value.{is_value_at_most, is_value_below, key_of, value_cmp, value_total}
use Rattle.salt_values.specs.declared.value.Value.{Value}
use Rattle.std.proofs.Common.{Bool, List, Some, [], ap, arith, drop, false, get_or, length, pos, refl, suc, sym, take, true, zero, ℕ, ◌-◌, ◌<◌, ◌≡◌, ◌≤◌, ◌∙◌, ◌∷◌}
use Rattle.std.proofs.lemmas.Cmp.{alike_right}
use Rattle.std.specs.List.Sorted.{IsPartitionPoint, IsPartitionedBy}
use Rattle.std.specs.List.{list_all}
use Rattle.std.specs.Ordering.{is_gt, is_lt, ordering_reverse}
use Rattle.std.specs.Prelude.{map, not, slice_get}
use Rattle.std.specs.declared.cmp.Ordering.TheVariants.{Equal, Greater, Less}
use Rattle.std.specs.declared.cmp.Ordering.{Ordering}

pub mapped_at : {A B : Type 0} (f : A → B) (xs : List A) (k : ℕ) (a : A) (b : B) → k < length xs → get_or (map f xs) k b ≡ f (get_or xs k a)
mapped_at f [] k a b h = absurd (omega arith)
mapped_at f (x ∷ xs) zero a b h = refl
mapped_at f (x ∷ xs) (suc k) a b h = mapped_at f xs k a b (omega arith)

pub mapped_long : {A B : Type 0} (f : A → B) (xs : List A) → length (map f xs) ≡ length xs
mapped_long f [] = refl
mapped_long f (x ∷ xs) = ap suc (mapped_long f xs)

-- a point in a list is one in the list of what a function gives of its elements
pub point_mapped : {A B : Type 0} (f : A → B) (p : B → Bool) (xs : List A) (n : ℕ) (a : A) → n ≤ length xs → IsPartitionPoint (λ x. p (f x) ≡ true) (λ x. p (f x) ≡ false) xs n → IsPartitionPoint (λ y. p y ≡ true) (λ y. p y ≡ false) (map f xs) n
point_mapped f p xs n a within point = (
  λ k d low high. ap p (mapped_at f xs k a d (omega (arith, within, high))) ∙ point.0 k a low high,
  λ k d low high. let below : k < length xs = omega (arith, high, mapped_long f xs) in ap p (mapped_at f xs k a d below) ∙ point.1 k a low below,
)

-- a test that the keys above one that fails it fail
abbrev pub Falls : (Value → Bool) → Type 0
Falls p = (a b : Value) → value_cmp a b ≡ Less → p b ≡ true → p a ≡ true

less_is : (o : Ordering) → is_lt o ≡ true → o ≡ Less
less_is Less h = refl
less_is Equal h = cc
less_is Greater h = cc

below_falls : (key : Value) → Falls (λ v. is_value_below v key)
below_falls key a b less h = ap is_lt (value_total.trans a b key less (less_is (value_cmp b key) h))

at_most_falls : (key : Value) → Falls (λ v. is_value_at_most v key)
at_most_falls key a b less h = by (value_cmp b key) refl h
  where
    by : (o : Ordering) → value_cmp b key ≡ o → not (is_gt o) ≡ true → is_value_at_most a key ≡ true
    by Less e h = ap (λ o. not (is_gt o)) (value_total.trans a b key less e)
    by Equal e h = ap (λ o. not (is_gt o)) (sym (alike_right value_total b key a e) ∙ less)
    by Greater e h = absurd cc

rising_at : (k : Value) (rows : List (List Value)) (j : ℕ) (d : List Value) → list_all (is_above_key k) rows ≡ true → j < length rows → value_cmp k (key_of (get_or rows j d)) ≡ Less
rising_at k [] j d h within = absurd (omega arith)
rising_at k (r ∷ rows) zero d h within = less_is (value_cmp k (key_of r)) (left (is_above_key k r) (list_all (is_above_key k) rows) h)
rising_at k (r ∷ rows) (suc j) d h within = rising_at k rows j d (right (is_above_key k r) (list_all (is_above_key k) rows) h) (omega arith)

parted : (p : Value → Bool) → Falls p → (rows : List (List Value)) → is_rising rows ≡ true → IsPartitionedBy (λ r. p (key_of r)) rows
parted p falls [] up i j d le within h = absurd (omega (arith, within))
parted p falls (r ∷ rows) up zero zero d le within h = h
parted p falls (r ∷ rows) up zero (suc j) d le within h =
    falls (key_of r) (key_of (get_or rows j d)) (rising_at (key_of r) rows j d (left (list_all (is_above_key (key_of r)) rows) (is_rising rows) up) (omega (arith, within))) h
parted p falls (r ∷ rows) up (suc i) zero d le within h = absurd (omega (arith, le))
parted p falls (r ∷ rows) up (suc i) (suc j) d le within h = parted p falls rows (right (list_all (is_above_key (key_of r)) rows) (is_rising rows) up) i j d (omega (arith, le)) (omega (arith, within)) h

no_spot : Spot
no_spot = record { number = pos 0; at = 0; kind = 0 }

pub spot_in : (bytes : List ℕ) (spots : List Spot) (k : ℕ) (d : Spot) → AreSpots bytes spots → k < length spots → IsSpot bytes (get_or spots k d)
spot_in bytes [] k d are within = absurd (omega (arith, within))
spot_in bytes (s ∷ spots) zero d are within = are.0
spot_in bytes (s ∷ spots) (suc k) d are within = spot_in bytes spots k d are.1 (omega (arith, within))

module _ (bytes : List ℕ) (spots : List Spot) (are : IsLoaded bytes spots) (key : Value) (answer : Ordering → Bool) (falls : Falls (λ v. answer (value_cmp v key))) where
  abbrev by_spot : Spot → Bool
  by_spot s = answer (spot_against bytes s key)

  abbrev by_row : List Value → Bool
  by_row r = answer (value_cmp (key_of r) key)

  same_test : (k : ℕ) (d : Spot) → k < length spots → by_spot (get_or spots k d) ≡ by_row (row_from bytes (get_or spots k d).at)
  same_test k d within = ap answer (against_is bytes (get_or spots k d) key (spot_in bytes spots k d are.each within))

  -- what a search asks of the spots
  pub spots_parted : IsPartitionedBy by_spot spots
  spots_parted i j d le within h =
      let row : Spot → List Value = λ s. row_from bytes s.at in
      let lower : i < length spots = omega (arith, le, within) in
      same_test i d lower
      ∙ ap by_row (sym (mapped_at row spots i d [] lower))
      ∙ parted (λ v. answer (value_cmp v key)) falls (rows_at bytes spots) are.rising i j [] le (omega (arith, within, mapped_long row spots))
      (ap by_row (mapped_at row spots j d [] within) ∙ sym (same_test j d within) ∙ h)

  -- and what it tells of the rows
  pub rows_counted : (n : ℕ) → n ≤ length spots → IsPartitionPoint (λ s. by_spot s ≡ true) (λ s. by_spot s ≡ false) spots n → IsPartitionPoint (λ r. by_row r ≡ true) (λ r. by_row r ≡ false) (rows_at bytes spots) n
  rows_counted n within point = point_mapped (λ (s : Spot). row_from bytes s.at) by_row spots n no_spot within (
    λ k d low high. sym (same_test k d (omega (arith, within, high))) ∙ point.0 k d low high,
    λ k d low high. sym (same_test k d high) ∙ point.1 k d low high,
  )

pub below_counts : (key : Value) → Falls (λ v. is_lt (value_cmp v key))
below_counts = below_falls

pub at_most_counts : (key : Value) → Falls (λ v. not (is_gt (value_cmp v key)))
at_most_counts = at_most_falls

-- rows as the entries of their table
pub entries_counted : (t : ℕ) (p : Value → Bool) (rows : List (List Value)) (n : ℕ) → n ≤ length rows → IsPartitionPoint (λ r. p (key_of r) ≡ true) (λ r. p (key_of r) ≡ false) rows n
    → IsPartitionPoint (λ (e : Entry). p e.0.key ≡ true) (λ (e : Entry). p e.0.key ≡ false) (entries_in t rows) n
entries_counted t p rows n within point = point_mapped (λ (row : List Value). (place t (key_of row), row)) (λ (e : Entry). p e.0.key) rows n [] within point

-- the bytes of a spot
pub read_at : (bytes : List ℕ) (spots : List Spot) (i : ℕ) (d : Spot) → AreSpots bytes spots → i < length spots
    → (row : List Value) × (rest : List ℕ) × (slice_get (rows_at bytes spots) i ≡ Some row) × (take_row true (take (length bytes - (get_or spots i d).at) (drop (get_or spots i d).at bytes)) ≡ Some (row, rest))
read_at bytes [] i d are within = absurd (omega (arith, within))
read_at bytes (s ∷ spots) zero d are within =
    let t = taken (drop s.at bytes) are.0.spelled in
    (row_from bytes s.at, t.0, refl, ap (take_row true) (to_end s.at bytes) ∙ t.1)
read_at bytes (s ∷ spots) (suc i) d are within = read_at bytes spots i d are.1 (omega (arith, within))

-- a lower end, from the key's side
pub turned_low : (lo k : Value) → not (is_lt (value_cmp k lo)) ≡ is_value_at_most lo k
turned_low lo k = by (value_cmp k lo) ∙ ap (λ o. not (is_gt o)) (sym (value_total.antisymm lo k))
  where
    by : (o : Ordering) → not (is_lt o) ≡ not (is_gt (ordering_reverse o))
    by Less = refl
    by Equal = refl
    by Greater = refl

twice : (b : Bool) → not (not b) ≡ b
twice true = refl
twice false = refl

-- the rows below a lower end are those that it does not leave inside
pub low_counts : (lo : Value) (es : Tables) (n : ℕ) → CountsRows (λ k. is_value_below k lo) es n → CountsRows (λ k. not (is_value_at_most lo k)) es n
low_counts lo es n counted = (λ k d low high. same (get_or es.list k d).0.key ∙ counted.0 k d low high, λ k d low high. same (get_or es.list k d).0.key ∙ counted.1 k d low high)
  where
    same : (k : Value) → not (is_value_at_most lo k) ≡ is_value_below k lo
    same k = ap not (sym (turned_low lo k)) ∙ twice (is_value_below k lo)

pub row_there : (bytes : List ℕ) (spots : List Spot) (i : ℕ) (d : Spot) (row : List Value) → i < length spots → slice_get (rows_at bytes spots) i ≡ Some row → row_from bytes (get_or spots i d).at ≡ row
row_there bytes [] i d row within h = absurd (omega arith)
row_there bytes (s ∷ spots) zero d row within h = cc
row_there bytes (s ∷ spots) (suc i) d row within h = row_there bytes spots i d row (omega arith) h

-- an entry is a row at the place of its key
pub entry_is : (t : ℕ) (rows : List (List Value)) (i : ℕ) (e : Entry) → slice_get (entries_in t rows) i ≡ Some e → (slice_get rows i ≡ Some e.1) × (key_of e.1 ≡ e.0.key)
entry_is t [] i e h = absurd cc
entry_is t (r ∷ rows) zero e h =
    let same : ◌≡◌ {A = Entry} (place t (key_of r), r) e = same_some (place t (key_of r), r) e h in
    (ap (λ (x : Entry). Some x.1) same, sym (ap (λ (x : Entry). key_of x.1) same) ∙ ap (λ (x : Entry). x.0.key) same)
entry_is t (r ∷ rows) (suc i) e h = entry_is t rows i e h
