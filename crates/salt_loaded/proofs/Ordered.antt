-- The order of spots is that of the keys of their rows.
use Rattle.salt_loaded.proofs.Fronts.{not_short, null_first, number_first, text_by_kind, text_first}
use Rattle.salt_loaded.proofs.Rising.{is_climbing}
use Rattle.salt_loaded.specs.Keys.{key_text, text_taken}
use Rattle.salt_loaded.specs.Order.{spot_against, spot_order, spot_text}
use Rattle.salt_loaded.specs.Rows.{have_twins}
use Rattle.salt_loaded.specs.Spots.{AreSpots, IsSpot, is_spelled, row_from, row_in, rows_at}
use Rattle.salt_loaded.specs.declared.order.Spot.{Spot}
use Rattle.salt_values.specs.Value.{int_in, is_same_value, is_value_below, key_of, kind_number, text_in, value_cmp}
use Rattle.salt_values.specs.declared.value.Value.TheVariants.{Int, Null, Text}
use Rattle.salt_values.specs.declared.value.Value.{Value}
use Rattle.std.proofs.Common.{Bool, List, [], ap, arith, cond, drop, eqb, inl, inr, false, get_or, length, refl, suc, sym, true, zero, ℕ, ◌+◌, ◌-◌, ◌<◌, ◌≡◌, ◌≤◌, ◌∙◌, ◌∷◌, ◌⊎◌}
use Rattle.std.proofs.lemmas.Bool.{eq-eqb, eqb-true}
use Rattle.std.proofs.lemmas.Bool.{cases_lt}
use Rattle.std.proofs.lemmas.List.{get_or_default}
use Rattle.std.specs.Cmp.Lexicographic.{nat_list_cmp_total, slice_cmp}
use Rattle.std.specs.Cmp.{IsTotalOrder, int_cmp_total, nat_cmp_total, on_total, then_total}
use Rattle.std.specs.List.Sorted.{IsSorted}
use Rattle.std.specs.Ordering.{int_cmp, is_eq, is_lt, nat_cmp, ordering_then}
use Rattle.std.specs.Prelude.{not, ◌&&◌, ◌||◌}
use Rattle.std.specs.declared.cmp.Ordering.TheVariants.{Equal, Greater, Less}
use Rattle.std.specs.declared.cmp.Ordering.{Ordering}

pub order_total : (bytes : List ℕ) → IsTotalOrder (spot_order bytes)
order_total bytes = then_total (on_total (λ (s : Spot). s.kind) nat_cmp_total) (then_total (on_total (λ (s : Spot). s.number) int_cmp_total) (on_total (spot_text bytes) nat_list_cmp_total))

-- a key that is a text is read from the bytes
text_read : (row : List ℕ) → is_spelled row ≡ true → kind_number (key_of (row_in row)) ≡ 1 → key_text row ≡ text_in (key_of (row_in row))
text_read row is kind = by (decide (length row))
  where
    decide : (n : ℕ) → (n < 2) ⊎ (2 ≤ n)
    decide zero = inl (omega arith)
    decide (suc zero) = inl (omega arith)
    decide (suc (suc n)) = inr (omega arith)

    kinds : (n : ℕ) → ((n ≡ 1) ⊎ (n ≡ 2)) ⊎ ((n ≡ 1 → ⊥) × (n ≡ 2 → ⊥))
    kinds zero = inr ((λ h. omega arith), (λ h. omega arith))
    kinds (suc zero) = inl (inl refl)
    kinds (suc (suc zero)) = inl (inr refl)
    kinds (suc (suc (suc n))) = inr ((λ h. omega arith), (λ h. omega arith))

    nor : ◌≡◌ {A = ℕ} 0 1 → ⊥
    nor h = omega arith

    not_two : ◌≡◌ {A = ℕ} 2 1 → ⊥
    not_two h = omega arith

    on : (more : 2 ≤ length row) → ((get_or row 1 0 ≡ 1) ⊎ (get_or row 1 0 ≡ 2)) ⊎ ((get_or row 1 0 ≡ 1 → ⊥) × (get_or row 1 0 ≡ 2 → ⊥)) → key_text row ≡ text_in (key_of (row_in row))
    on more (inl (inl one)) = let n = number_first row is more one in absurd (nor (sym (ap kind_number n.3) ∙ kind))
    on more (inl (inr two)) = let t = text_first row is more two in sym (text_by_kind row more two) ∙ ap text_taken t.2 ∙ sym (ap text_in t.3)
    on more (inr other) = absurd (not_two (sym (ap kind_number (null_first row is more other.0 other.1)) ∙ kind))

    by : (length row < 2) ⊎ (2 ≤ length row) → key_text row ≡ text_in (key_of (row_in row))
    by (inl short) = absurd (not_short row is short)
    by (inr more) = on more (kinds (get_or row 1 0))

module _ (bytes : List ℕ) where
  abbrev key_at : Spot → Value
  key_at s = key_of (row_from bytes s.at)

  pub text_is : (s : Spot) → IsSpot bytes s → spot_text bytes s ≡ text_in (key_at s)
  text_is s is = by (eqb s.kind 1) refl
    where
      other : (v : Value) → (kind_number v ≡ 1 → ⊥) → [] ≡ text_in v
      other (Int z) h = refl
      other (Text t) h = absurd (h refl)
      other Null h = refl

      by : (b : Bool) → eqb s.kind 1 ≡ b → cond b (key_text (drop s.at bytes)) [] ≡ text_in (key_at s)
      by true e = text_read (drop s.at bytes) is.spelled (sym is.kind ∙ eqb-true s.kind 1 e)
      by false e = other (key_at s) (λ one. clash (eq-eqb s.kind 1 (is.kind ∙ one)) e)
        where
          clash : {b : Bool} → b ≡ true → b ≡ false → ⊥
          clash h k = cc

  pub order_is : (a b : Spot) → IsSpot bytes a → IsSpot bytes b → spot_order bytes a b ≡ value_cmp (key_at a) (key_at b)
  order_is a b one two = λ i. ordering_then (nat_cmp (one.kind i) (two.kind i)) (ordering_then (int_cmp (one.number i) (two.number i)) (slice_cmp nat_cmp (text_is a one i) (text_is b two i)))

  pub against_is : (s : Spot) (key : Value) → IsSpot bytes s → spot_against bytes s key ≡ value_cmp (key_at s) key
  against_is s (Int z) is = (λ i. ordering_then (nat_cmp (is.kind i) 0) (int_cmp (is.number i) z)) ∙ by (key_at s)
    where
      then_equal : (o : Ordering) → o ≡ ordering_then o Equal
      then_equal Less = refl
      then_equal Equal = refl
      then_equal Greater = refl

      by : (v : Value) → ordering_then (nat_cmp (kind_number v) 0) (int_cmp (int_in v) z) ≡ value_cmp v (Int z)
      by (Int y) = then_equal (int_cmp y z)
      by (Text t) = refl
      by Null = refl
  against_is s (Text t) is = (λ i. ordering_then (nat_cmp (is.kind i) 1) (slice_cmp nat_cmp (text_is s is i) t)) ∙ by (key_at s)
    where
      by : (v : Value) → ordering_then (nat_cmp (kind_number v) 1) (slice_cmp nat_cmp (text_in v) t) ≡ value_cmp v (Text t)
      by (Int y) = refl
      by (Text u) = refl
      by Null = refl
  against_is s Null is = (λ i. nat_cmp (is.kind i) 2) ∙ by (key_at s)
    where
      by : (v : Value) → nat_cmp (kind_number v) 2 ≡ value_cmp v Null
      by (Int y) = refl
      by (Text u) = refl
      by Null = refl

  pub sorted_climb : (spots : List Spot) → AreSpots bytes spots → IsSorted (spot_order bytes) spots → is_climbing (rows_at bytes spots) ≡ true
  sorted_climb [] are sorted = refl
  sorted_climb (s ∷ []) are sorted = refl
  sorted_climb (s ∷ u ∷ spots) are sorted =
      let up : is_value_below (key_at u) (key_at s) ≡ false = ap is_lt (sym (order_is u s are.1.0 are.0)) ∙ sorted 0 s (omega arith) (omega arith) in
      ap (λ b. not b && is_climbing (rows_at bytes (u ∷ spots))) up
      ∙ sorted_climb (u ∷ spots) are.1 (λ k d low high. let n : suc k + 1 ≡ suc (k + 1) = omega arith in sym (ap (λ (j : ℕ). is_lt (spot_order bytes (get_or (s ∷ u ∷ spots) j d) (get_or (u ∷ spots) k d))) n) ∙ sorted (suc k) d (omega arith) (omega (arith, high)))

  -- neighbours that tie
  abbrev pub AreNoTwins : List Spot → ℕ → Type 0
  AreNoTwins spots high = (k : ℕ) (d : Spot) → k + 1 < high → is_eq (spot_order bytes (get_or spots k d) (get_or spots (k + 1) d)) ≡ false

  pub no_twins : (spots : List Spot) → AreSpots bytes spots → AreNoTwins spots (length spots) → have_twins (rows_at bytes spots) ≡ false
  no_twins [] are none = refl
  no_twins (s ∷ []) are none = refl
  no_twins (s ∷ u ∷ spots) are none =
      let apart : is_same_value (key_at s) (key_at u) ≡ false = ap is_eq (sym (order_is s u are.0 are.1.0)) ∙ none 0 s (omega arith) in
      ap (λ b. b || have_twins (rows_at bytes (u ∷ spots))) apart
      ∙ no_twins (u ∷ spots) are.1 (λ k d high. let n : suc k + 1 ≡ suc (k + 1) = omega arith in sym (ap (λ (j : ℕ). is_eq (spot_order bytes (get_or (u ∷ spots) k d) (get_or (s ∷ u ∷ spots) j d))) n) ∙ none (suc k) d (omega (arith, high)))

  pub twins : (spots : List Spot) (k : ℕ) (d : Spot) → AreSpots bytes spots → k + 1 < length spots → is_eq (spot_order bytes (get_or spots k d) (get_or spots (k + 1) d)) ≡ true → have_twins (rows_at bytes spots) ≡ true
  twins [] k d are high same = absurd (omega arith)
  twins (s ∷ []) k d are high same = absurd (omega arith)
  twins (s ∷ u ∷ spots) zero d are high same = ap (λ b. b || have_twins (rows_at bytes (u ∷ spots))) (ap is_eq (sym (order_is s u are.0 are.1.0)) ∙ same)
  twins (s ∷ u ∷ spots) (suc k) d are high same =
      let n : suc k + 1 ≡ suc (k + 1) = omega arith in
      ap (λ b. is_same_value (key_at s) (key_at u) || b) (twins (u ∷ spots) k d are.1 (omega (arith, high)) (sym (ap (λ (j : ℕ). is_eq (spot_order bytes (get_or (u ∷ spots) k d) (get_or (s ∷ u ∷ spots) j d))) n) ∙ same))
      ∙ either (is_same_value (key_at s) (key_at u))
    where
      either : (b : Bool) → (b || true) ≡ true
      either true = refl
      either false = refl

  abbrev ties : Spot → Spot → Bool
  ties a b = is_eq (spot_order bytes a b)

  pub twins_before : (spots : List Spot) (i : ℕ) (d : Spot) → AreSpots bytes spots → 1 ≤ i → i < length spots → is_eq (spot_order bytes (get_or spots (i - 1) d) (get_or spots i d)) ≡ true → have_twins (rows_at bytes spots) ≡ true
  twins_before spots i d are some within same =
      let n : i - 1 + 1 ≡ i = omega arith in
      twins spots (i - 1) d are (omega arith) (ap (λ (j : ℕ). ties (get_or spots (i - 1) d) (get_or spots j d)) n ∙ same)

  pub no_twins_more : (spots : List Spot) (i : ℕ) (e : Spot) → 1 ≤ i → i < length spots → AreNoTwins spots i → is_eq (spot_order bytes (get_or spots (i - 1) e) (get_or spots i e)) ≡ false → AreNoTwins spots (i + 1)
  no_twins_more spots i e some within none apart k d high = by (cases_lt (k + 1) i)
    where
      by : (k + 1 < i) ⊎ (i ≤ k + 1) → is_eq (spot_order bytes (get_or spots k d) (get_or spots (k + 1) d)) ≡ false
      by (inl below) = none k d below
      by (inr last) =
          let n : k + 1 ≡ i = omega (arith, last, high) in
          let m : k ≡ i - 1 = omega (arith, last, high) in
          (λ j. ties (get_or spots (m j) d) (get_or spots (n j) d))
          ∙ (λ j. ties (get_or_default spots (i - 1) d e (omega arith) j) (get_or_default spots i d e within j))
          ∙ apart
