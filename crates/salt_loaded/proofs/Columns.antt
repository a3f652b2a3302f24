-- The values of a row that is spelled, one behind the other.
use Rattle.salt_bytes.specs.Values.{take_row, take_value}
use Rattle.salt_bytes.specs.Taking.{take_each}
use Rattle.salt_loaded.proofs.Fronts.{first_value, one_front, same_some, values_of}
use Rattle.salt_loaded.specs.Spots.{row_of}
use Rattle.salt_loaded.specs.Spelled.{IsColumnAt, LeavesValue}
use Rattle.salt_values.specs.declared.value.Value.{Value}
use Rattle.std.proofs.Common.{List, None, Option, Some, [], ap, arith, drop, get_or, length, refl, suc, sym, take, true, zero, ℕ, ◌+◌, ◌-◌, ◌<◌, ◌≡◌, ◌≤◌, ◌∙◌, ◌∷◌}
use Rattle.std.specs.Prelude.{slice_get}

-- so many values of a row are passed, and the others stand at the front of what is left
abbrev pub Passed : List ℕ → ℕ → List ℕ → Type 0
Passed row passed left = (r : List Value) (rest : List ℕ) → take_row true row ≡ Some (r, rest) → take_each (take_value true) (get_or row 0 0 - passed) left ≡ Some (drop passed r, rest)

pub begun : (row : List ℕ) → 1 ≤ length row → Passed row 0 (take (length row - 1) (drop 1 row))
begun row more r rest h =
    let count = get_or row 0 0 in
    let behind = take (length row - 1) (drop 1 row) in
    let all : count - 0 ≡ count = omega arith in
    ap (λ (n : ℕ). take_each (take_value true) n behind) all ∙ (values_of count behind rest r (ap (take_row true) (sym (one_front row more)) ∙ h)).1

next : {A : Type 0} (n : ℕ) (xs ys : List A) (x : A) → drop n xs ≡ x ∷ ys → (drop (n + 1) xs ≡ ys) × (slice_get xs n ≡ Some x)
next zero [] ys x h = absurd cc
next zero (z ∷ xs) ys x h = (cc, cc)
next (suc n) [] ys x h = absurd cc
next (suc n) (z ∷ xs) ys x h = let m = next n xs ys x h in let e : suc n + 1 ≡ suc (n + 1) = omega arith in (ap (λ (k : ℕ). drop k (z ∷ xs)) e ∙ m.0, m.1)

module _ (row : List ℕ) (passed : ℕ) (left : List ℕ) (below : passed < get_or row 0 0) (is : Passed row passed left) (r : List Value) (rest : List ℕ) (h : take_row true row ≡ Some (r, rest)) where
  -- the first of what is left, and those behind it
  first : (v : Value) × (more : List ℕ) × (vs : List Value) × (take_value true left ≡ Some (v, more)) × (take_each (take_value true) (get_or row 0 0 - (passed + 1)) more ≡ Some (vs, rest)) × (drop passed r ≡ v ∷ vs)
  first =
      let n : get_or row 0 0 - passed ≡ suc (get_or row 0 0 - (passed + 1)) = omega arith in
      first_value (get_or row 0 0 - (passed + 1)) left rest (drop passed r) (ap (λ (k : ℕ). take_each (take_value true) k left) (sym n) ∙ is r rest h)

  pub stepped : (more : List ℕ) → LeavesValue left (Some more) → take_each (take_value true) (get_or row 0 0 - (passed + 1)) more ≡ Some (drop (passed + 1) r, rest)
  stepped more leaves =
      let f = first in
      let same : more ≡ f.1 = same_some more f.1 (leaves f.0 f.1 f.3) in
      ap (take_each (take_value true) (get_or row 0 0 - (passed + 1))) same ∙ f.4 ∙ ap (λ (vs : List Value). Some (vs, rest)) (sym (next passed r f.2 f.0 f.5).0)

  pub goes_on : LeavesValue left None → ⊥
  goes_on leaves = let f = first in nothing f.1 (leaves f.0 f.1 f.3)
    where
      nothing : (x : List ℕ) → None ≡ Some x → ⊥
      nothing x h = cc

  pub column : IsColumnAt r passed (Some left)
  column = let f = first in (f.0, f.1, (next passed r f.2 f.0 f.5).1, f.3)

pub column_at : (row : List ℕ) (passed number : ℕ) (left : List ℕ) → passed ≤ number → number ≤ passed → number < get_or row 0 0 → Passed row passed left → (r : List Value) (rest : List ℕ) → take_row true row ≡ Some (r, rest) → IsColumnAt r number (Some left)
column_at row passed number left up down below is r rest h =
    let same : passed ≡ number = omega arith in
    moved same (column row passed left (omega arith) is r rest h)
  where
    moved : passed ≡ number → IsColumnAt r passed (Some left) → IsColumnAt r number (Some left)
    moved e f = (f.0, f.1, ap (slice_get r) (sym e) ∙ f.2, f.3)

as_many : (n : ℕ) (bytes rest : List ℕ) (r : List Value) → take_each (take_value true) n bytes ≡ Some (r, rest) → length r ≡ n
as_many zero bytes rest [] h = refl
as_many zero bytes rest (v ∷ r) h = let none : [] ≡ v ∷ r = ap (λ (o : Option (List Value × List ℕ)). row_of o) h in absurd cc
as_many (suc n) bytes rest r h = let f = first_value n bytes rest r h in ap length f.5 ∙ ap suc (as_many n f.1 rest f.2 f.4)

past_end : {A : Type 0} (n : ℕ) (xs : List A) → length xs ≤ n → slice_get xs n ≡ None
past_end n [] h = refl
past_end zero (x ∷ xs) h = absurd (omega arith)
past_end (suc n) (x ∷ xs) h = past_end n xs (omega arith)

pub past : (row : List ℕ) (number : ℕ) → 1 ≤ length row → get_or row 0 0 ≤ number → (r : List Value) (rest : List ℕ) → take_row true row ≡ Some (r, rest) → slice_get r number ≡ None
past row number more over r rest h =
    let count = get_or row 0 0 in
    let long = as_many count (take (length row - 1) (drop 1 row)) rest r (values_of count (take (length row - 1) (drop 1 row)) rest r (ap (take_row true) (sym (one_front row more)) ∙ h)).1 in
    past_end number r (omega (arith, long, over))
