-- A part of a list, from one place to another.
use Rattle.std.proofs.Common.{ap, arith, refl, sym, ◌∙◌}
use Rattle.std.specs.List.{filter, find}
use Rattle.std.specs.Prelude.{Bool, List, Some, [], drop, false, get_or, length, suc, take, true, zero, ℕ, ◌+◌, ◌-◌, ◌<◌, ◌∷◌, ◌≡◌, ◌≤◌}

one_more : {X : Type 0} (xs : List X) (at n : ℕ) (d : X) → at < length xs → take (suc n) (drop at xs) ≡ get_or xs at d ∷ take n (drop (suc at) xs)
one_more [] at n d h = absurd (omega (arith, h))
one_more (x ∷ xs) zero n d h = refl
one_more (x ∷ xs) (suc at) n d h = one_more xs at n d (omega (arith, h))

-- the element at its beginning, and the rest
pub part_from : {X : Type 0} (xs : List X) (at to : ℕ) (x : X) → at < to → to ≤ length xs → x ≡ get_or xs at x → take (to - at) (drop at xs) ≡ x ∷ take (to - (at + 1)) (drop (at + 1) xs)
part_from {X} xs at to x h k is = by (to - at) (to - (at + 1)) (omega (arith, h))
  where
    by : (m n : ℕ) → m ≡ suc n → take m (drop at xs) ≡ x ∷ take n (drop (at + 1) xs)
    by m n e = ap (λ i. take i (drop at xs)) e ∙ (one_more xs at n x (omega (arith, h, k)) ∙ (ap (λ y. y ∷ take n (drop (suc at) xs)) (sym is) ∙ ap (λ i. x ∷ take n (drop i xs)) one))
      where
        one : suc at ≡ at + 1
        one = omega arith

-- the element before it, and all of it
pub part_before : {X : Type 0} (xs : List X) (left to : ℕ) (x : X) → 0 < left → left ≤ to → to ≤ length xs → x ≡ get_or xs (left - 1) x → take (to - (left - 1)) (drop (left - 1) xs) ≡ x ∷ take (to - left) (drop left xs)
part_before {X} xs left to x some h k is = by (left - 1) (omega (arith, some)) is
  where
    by : (m : ℕ) → m + 1 ≡ left → x ≡ get_or xs m x → take (to - m) (drop m xs) ≡ x ∷ take (to - left) (drop left xs)
    by m e at = part_from xs m to x (omega (arith, e, h)) k at ∙ ap (λ i. x ∷ take (to - i) (drop i xs)) e

-- the first that passes, where the first of them does
pub find_here : {X : Type 0} (p : X → Bool) (x : X) (xs : List X) → p x ≡ true → find p (x ∷ xs) ≡ Some x
find_here p x xs e = rw e refl

pub find_later : {X : Type 0} (p : X → Bool) (x : X) (xs : List X) → p x ≡ false → find p (x ∷ xs) ≡ find p xs
find_later p x xs e = rw e refl

pub left_here : {X : Type 0} (p : X → Bool) (x : X) (xs : List X) → p x ≡ true → filter p (x ∷ xs) ≡ x ∷ filter p xs
left_here p x xs e = rw e refl

pub left_out : {X : Type 0} (p : X → Bool) (x : X) (xs : List X) → p x ≡ false → filter p (x ∷ xs) ≡ filter p xs
left_out p x xs e = rw e refl
