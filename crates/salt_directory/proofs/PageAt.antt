-- A page is read of its side's bytes, and pages of a list of sides.
use Rattle.salt_bytes.specs.Page.{TableRow, page_length, page_place, rows_in_page}
use Rattle.salt_bytes.specs.Taking.{go_on}
use Rattle.salt_checkpoint.proofs.Moved.{are_apart}
use Rattle.salt_checkpoint.specs.Sides.{side_bytes}
use Rattle.salt_pages.proofs.Taken.{none_behind, some_behind}
use Rattle.salt_directory.proofs.Alike.{apart_front}
use Rattle.salt_directory.specs.Pages.{all_rows}
use Rattle.salt_stands.proofs.PageReads.{page_at_same}
use Rattle.salt_stands.specs.Partition.{page_at, rows_from}
use Rattle.std.proofs.Common.{Bool, List, None, Option, Some, [], ap, append_assoc, arith, drop, false, get_or, inl, inr, length, length-drop, length-take, refl, subst, suc, sym, take, true, zero, ℕ, ◌+◌, ◌++◌, ◌<◌, ◌≡◌, ◌≤◌, ◌⊎◌, ◌∙◌, ◌∷◌}
use Rattle.std.proofs.lemmas.Bool.{cases_lt}
use Rattle.std.specs.Prelude.{option_and_then, option_map}

abbrev page_of_taken : Bool → Option (List ℕ × List ℕ) → Option (List TableRow)
page_of_taken nulls o = option_map (λ (taken : List TableRow × List ℕ). taken.0) (go_on (λ bytes rest. option_map (λ (rows : List TableRow). (rows, rest)) (rows_in_page nulls bytes)) o)

module _ (nulls : Bool) (bytes : List ℕ) (page side : ℕ) where
  pub page_is : length (side_bytes bytes page side) ≡ page_length → page_at nulls bytes page side ≡ rows_in_page nulls (side_bytes bytes page side)
  page_is whole =
      let behind = drop (page_place page side) bytes in
      let long : page_length ≤ length behind = omega (arith, length-take page_length behind, whole) in
      ap (page_of_taken nulls) (some_behind page_length behind long) ∙ by (rows_in_page nulls (take page_length behind))
    where
      by : (o : Option (List TableRow)) → option_map (λ (taken : List TableRow × List ℕ). taken.0) (option_map (λ (rows : List TableRow). (rows, drop page_length (drop (page_place page side) bytes))) o) ≡ o
      by None = refl
      by (Some rows) = refl

  pub no_page : length (side_bytes bytes page side) < page_length → page_at nulls bytes page side ≡ None
  no_page short =
      let behind = drop (page_place page side) bytes in
      let few : length behind < page_length = omega (arith, length-take page_length behind, short) in
      ap (page_of_taken nulls) (none_behind page_length behind few)

  -- a page that is there is whole
  pub whole_page : (rows : List TableRow) → page_at nulls bytes page side ≡ Some rows → length (side_bytes bytes page side) ≡ page_length
  whole_page rows is = by (cases_lt (length (side_bytes bytes page side)) page_length)
    where
      by : (length (side_bytes bytes page side) < page_length) ⊎ (page_length ≤ length (side_bytes bytes page side)) → length (side_bytes bytes page side) ≡ page_length
      by (inl short) = absurd (clash (sym (no_page short) ∙ is))
        where
          clash : None ≡ Some rows → ⊥
          clash e = cc
      by (inr long) = omega (arith, long, length-take page_length (drop (page_place page side) bytes))

  pub page_end : (rows : List TableRow) → page_at nulls bytes page side ≡ Some rows → page_place page side + page_length ≤ length bytes
  page_end rows is =
      let behind = drop (page_place page side) bytes in
      omega (arith, whole_page rows is, length-take page_length behind, length-drop (page_place page side) bytes)

-- the same bytes on another device
pub page_same : (nulls : Bool) (old new : List ℕ) (page side : ℕ) → side_bytes new page side ≡ side_bytes old page side → page_at nulls new page side ≡ page_at nulls old page side
page_same nulls old new page side same = page_at_same nulls old new page side same

-- OF A LIST OF SIDES

module _ (nulls : Bool) (bytes : List ℕ) where
  next_page : (k i : ℕ) → k + suc i ≡ suc k + i
  next_page k i = omega arith

  same_page : (k : ℕ) → k + 0 ≡ k
  same_page k = omega arith

  abbrev with_more : (k : ℕ) → List ℕ → Option (List TableRow) → Option (List TableRow)
  with_more k sides o = option_and_then (λ rows. option_map (λ more. rows ++ more) (rows_from nulls bytes k sides)) o

  pub rows_all : (k : ℕ) (sides : List ℕ) (pages : List (List TableRow)) → length pages ≡ length sides
      → ((i : ℕ) → i < length sides → page_at nulls bytes (k + i) (get_or sides i 0) ≡ Some (get_or pages i [])) → rows_from nulls bytes k sides ≡ Some (all_rows pages)
  rows_all k [] [] same each = refl
  rows_all k [] (p ∷ ps) same each = absurd (omega (arith, same))
  rows_all k (s ∷ ss) [] same each = absurd (omega (arith, same))
  rows_all k (s ∷ ss) (p ∷ ps) same each =
      let first : page_at nulls bytes k s ≡ Some p = subst (λ (n : ℕ). page_at nulls bytes n s ≡ Some p) (same_page k) (each 0 (omega arith)) in
      let rest : rows_from nulls bytes (suc k) ss ≡ Some (all_rows ps) =
      rows_all (suc k) ss ps (omega (arith, same)) (λ i low. subst (λ (n : ℕ). page_at nulls bytes n (get_or ss i 0) ≡ Some (get_or ps i [])) (next_page k i) (each (suc i) (omega (arith, low)))) in
      ap (with_more (suc k) ss) first ∙ ap (option_map (λ more. p ++ more)) rest

  -- one that is none
  pub rows_none : (k : ℕ) (sides : List ℕ) (i : ℕ) → i < length sides → page_at nulls bytes (k + i) (get_or sides i 0) ≡ None → rows_from nulls bytes k sides ≡ None
  rows_none k [] i low none = absurd (omega (arith, low))
  rows_none k (s ∷ ss) zero low none = ap (with_more (suc k) ss) (subst (λ (n : ℕ). page_at nulls bytes n s ≡ None) (same_page k) none)
  rows_none k (s ∷ ss) (suc i) low none = by (page_at nulls bytes k s) (rows_none (suc k) ss i (omega (arith, low)) (subst (λ (n : ℕ). page_at nulls bytes n (get_or ss i 0) ≡ None) (next_page k i) none))
    where
      by : (o : Option (List TableRow)) → rows_from nulls bytes (suc k) ss ≡ None → with_more (suc k) ss o ≡ None
      by None rest = refl
      by (Some rows) rest = ap (option_map (λ more. rows ++ more)) rest

  -- the first pages' rows stand before all others
  pub rows_first : (k : ℕ) (sides : List ℕ) (pages : List (List TableRow)) (rows : List TableRow) → length pages ≤ length sides
      → ((i : ℕ) → i < length pages → page_at nulls bytes (k + i) (get_or sides i 0) ≡ Some (get_or pages i [])) → rows_from nulls bytes k sides ≡ Some rows → (more : List TableRow) × (rows ≡ all_rows pages ++ more)
  rows_first k sides [] rows few each is = (rows, refl)
  rows_first k [] (p ∷ ps) rows few each is = absurd (omega (arith, few))
  rows_first k (s ∷ ss) (p ∷ ps) rows few each is = by (rows_from nulls bytes (suc k) ss) refl (ap (with_more (suc k) ss) (sym first) ∙ is) (λ more h. rows_first (suc k) ss ps more (omega (arith, few)) next h)
    where
      first : page_at nulls bytes k s ≡ Some p
      first = subst (λ (n : ℕ). page_at nulls bytes n s ≡ Some p) (same_page k) (each 0 (omega arith))

      next : (i : ℕ) → i < length ps → page_at nulls bytes (suc k + i) (get_or ss i 0) ≡ Some (get_or ps i [])
      next i low = subst (λ (n : ℕ). page_at nulls bytes n (get_or ss i 0) ≡ Some (get_or ps i [])) (next_page k i) (each (suc i) (omega (arith, low)))

      by : (o : Option (List TableRow)) → rows_from nulls bytes (suc k) ss ≡ o → option_map (λ more. p ++ more) o ≡ Some rows
          → ((more : List TableRow) → rows_from nulls bytes (suc k) ss ≡ Some more → (m : List TableRow) × (more ≡ all_rows ps ++ m)) → (m : List TableRow) × (rows ≡ (p ++ all_rows ps) ++ m)
      by None e is on = cc
      by (Some more) e is on =
          let rest = on more e in
          let whole : p ++ more ≡ rows = cc in
          (rest.0, sym whole ∙ ap (λ (l : List TableRow). p ++ l) rest.1 ∙ sym (append_assoc p (all_rows ps) rest.0))

-- twins among the first are twins among all
pub twins_stay : (xs ys : List TableRow) → are_apart xs ≡ false → are_apart (xs ++ ys) ≡ false
twins_stay xs ys twins = by (are_apart (xs ++ ys)) refl
  where
    by : (b : Bool) → are_apart (xs ++ ys) ≡ b → are_apart (xs ++ ys) ≡ false
    by false is = is
    by true is = absurd (clash (sym (apart_front xs ys is) ∙ twins))
      where
        clash : true ≡ false → ⊥
        clash e = cc
