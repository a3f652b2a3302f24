-- Changes in order, as they are looked at one by one.
use Rattle.salt_bytes.specs.Changes.{are_in_order, change_cmp}
use Rattle.salt_values.specs.declared.change.Change.{Change}
use Rattle.std.proofs.Common.{List, [], ap, arith, drop, get_or, length, refl, sym, true, ℕ, suc, zero, ◌<◌, ◌≡◌, ◌≤◌, ◌∙◌, ◌∷◌}
use Rattle.std.specs.Ordering.{is_lt}
use Rattle.std.specs.Prelude.{◌&&◌}

-- the next is in order, or not
next_is : (a b : Change) (rest : List Change) → are_in_order (a ∷ b ∷ rest) ≡ (is_lt (change_cmp a b) && are_in_order (b ∷ rest))
next_is a b rest = refl

pub in_order_next : (changes : List Change) (n : ℕ) (a b : Change) → suc n < length changes → a ≡ get_or changes n a → b ≡ get_or changes (suc n) b
    → are_in_order (drop n changes) ≡ (is_lt (change_cmp a b) && are_in_order (drop (suc n) changes))
in_order_next [] n a b low is is' = absurd (omega (arith, low))
in_order_next (x ∷ []) n a b low is is' = absurd (omega (arith, low))
in_order_next (x ∷ y ∷ changes) zero a b low is is' = ap (λ z. is_lt (change_cmp z y) && are_in_order (y ∷ changes)) (sym is) ∙ ap (λ z. is_lt (change_cmp a z) && are_in_order (y ∷ changes)) (sym is')
in_order_next (x ∷ y ∷ changes) (suc n) a b low is is' = in_order_next (y ∷ changes) n a b (omega (arith, low)) is is'

pub in_order_end : (changes : List Change) (n : ℕ) → length changes ≤ suc n → are_in_order (drop n changes) ≡ true
in_order_end [] zero long = refl
in_order_end [] (suc n) long = refl
in_order_end (x ∷ []) zero long = refl
in_order_end (x ∷ y ∷ changes) zero long = absurd (omega (arith, long))
in_order_end (x ∷ changes) (suc n) long = in_order_end changes n (omega (arith, long))

-- before the first step
pub starts : (changes : List Change) (before : ℕ) → 1 ≡ suc before → are_in_order (drop before changes) ≡ are_in_order changes
starts changes zero is = refl
starts changes (suc n) is = absurd (omega (arith, is))
