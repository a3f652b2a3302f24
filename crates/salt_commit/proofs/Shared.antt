-- Shares of changes, and the number that tells which have some.
use Rattle.salt_commit.specs.Shares.{bit_of, mask_of, shares_of}
use Rattle.salt_shares.specs.Shares.{has_changes, share_at}
use Rattle.salt_stands.specs.Pieces.{listed}
use Rattle.salt_stands.specs.Placed.{changes_at}
use Rattle.salt_stands.specs.Words.{has_bit}
use Rattle.salt_values.specs.declared.change.Change.{Change}
use Rattle.salt_place.specs.declared.placement.Shape.{Shape}
use Rattle.std.proofs.Common.{List, [], ap, arith, length, refl, subst, sym, ℕ, ◌*◌, ◌+◌, ◌++◌, ◌<◌, ◌≡◌, ◌∙◌, ◌∷◌, ◌≤◌}
use Rattle.std.proofs.Math.Nat.{div-div-eq-div-mul, div-one, zero-div}
use native.Mathlib.Numerals.{unary_clauses}
use Rattle.std.proofs.lemmas.Bool.Decides.{nat_tests}
use Rattle.std.specs.Prelude.{nat_lt, Bool, false, suc, true, zero, ◌/◌, ◌%◌, ◌==◌, ◌^◌}

-- the list of one more
pub listed_push : {A : Type 0} (f : ℕ → A) (p n : ℕ) → listed f p (suc n) ≡ listed f p n ++ f (p + n) ∷ []
listed_push f p zero = let e : p ≡ p + 0 = omega arith in ap (λ k. f k ∷ []) e
listed_push f p (suc n) = let e : suc p + n ≡ p + suc n = omega arith in ap (λ l. f p ∷ l) (listed_push f (suc p) n ∙ ap (λ k. listed f (suc p) n ++ f k ∷ []) e)

pub length-listed : {A : Type 0} (f : ℕ → A) (p n : ℕ) → length (listed f p n) ≡ n
length-listed f p zero = refl
length-listed f p (suc n) = ap suc (length-listed f (suc p) n)

listed_at : (f : ℕ → List Change) (p n k : ℕ) → k < n → share_at (listed f p n) k ≡ f (p + k)
listed_at f p zero k low = absurd (omega (arith, low))
listed_at f p (suc n) zero low = let e : p ≡ p + 0 = omega arith in ap f e
listed_at f p (suc n) (suc k) low = let e : suc p + k ≡ p + suc k = omega arith in listed_at f (suc p) n k (omega (arith, low)) ∙ ap f e

-- the share of a partition is its changes
pub share_is : (shape : Shape) (cs : List Change) (p : ℕ) → p < shape.parts → share_at (shares_of shape cs) p ≡ changes_at shape p cs
share_is shape cs p low = let e : 0 + p ≡ p = omega arith in listed_at (λ k. changes_at shape k cs) 0 shape.parts p low ∙ ap (λ k. changes_at shape k cs) e

-- past the last there is none
pub share_past : (shape : Shape) (cs : List Change) (p : ℕ) → shape.parts ≤ p → share_at (shares_of shape cs) p ≡ []
share_past shape cs p high = none (λ k. changes_at shape k cs) 0 shape.parts p high
  where
    none : (f : ℕ → List Change) (p n k : ℕ) → n ≤ k → share_at (listed f p n) k ≡ []
    none f p zero k h = refl
    none f p (suc n) zero h = absurd (omega (arith, h))
    none f p (suc n) (suc k) h = none f (suc p) n k (omega (arith, h))

-- the shares before one more partition, and its own
pub shares_next : (shape : Shape) (cs : List Change) (p : ℕ) (before after : List (List Change)) → before ≡ listed (λ k. changes_at shape k cs) 0 p → after ≡ before ++ changes_at shape p cs ∷ []
    → after ≡ listed (λ k. changes_at shape k cs) 0 (p + 1)
shares_next shape cs p before after was is =
    let one : suc p ≡ p + 1 = omega arith in
    let e : 0 + p ≡ p = omega arith in
    is ∙ ap (λ l. l ++ changes_at shape p cs ∷ []) was ∙ ap (λ k. listed (λ q. changes_at shape q cs) 0 p ++ changes_at shape k cs ∷ []) (sym e) ∙ sym (listed_push (λ k. changes_at shape k cs) 0 p)
    ∙ ap (listed (λ k. changes_at shape k cs) 0) one

double : (p : ℕ) → 2 ^ suc p ≡ 2 * 2 ^ p
double p = simp unary_clauses (omega arith)

half : (b : Bool) (m : ℕ) → (bit_of b + 2 * m) / 2 ≡ m
half true m = omega arith
half false m = omega arith

lowest : (b : Bool) (m : ℕ) → ((bit_of b + 2 * m) % 2 == 1) ≡ b
lowest true m = ap (λ n. n == 1) (odd m)
  where
    odd : (n : ℕ) → (1 + 2 * n) % 2 ≡ 1
    odd n = omega arith
lowest false m = ap (λ n. n == 1) (even m)
  where
    even : (n : ℕ) → (0 + 2 * n) % 2 ≡ 0
    even n = omega arith

-- bit p of the number tells whether the share at p has changes
pub mask_bit : (ss : List (List Change)) (p : ℕ) → has_bit (mask_of ss) p ≡ has_changes (share_at ss p)
mask_bit [] p = ap (λ n. n % 2 == 1) (zero-div (2 ^ p))
mask_bit (s ∷ ss) zero = ap (λ n. n % 2 == 1) (div-one (mask_of (s ∷ ss))) ∙ lowest (has_changes s) (mask_of ss)
mask_bit (s ∷ ss) (suc p) =
    ap (λ n. n % 2 == 1) (up ∙ sym (div-div-eq-div-mul (mask_of (s ∷ ss)) 2 (2 ^ p)) ∙ ap (λ n. n / 2 ^ p) (half (has_changes s) (mask_of ss))) ∙ mask_bit ss p
  where
    up : mask_of (s ∷ ss) / 2 ^ suc p ≡ mask_of (s ∷ ss) / (2 * 2 ^ p)
    up = let e : 2 ^ suc p ≡ 2 * 2 ^ p = double p in ap (λ k. mask_of (s ∷ ss) / k) e

-- and it has no bit at or above their count
pub below_bits : (ss : List (List Change)) → mask_of ss < 2 ^ length ss
below_bits [] = omega arith
below_bits (s ∷ ss) = let e = double (length ss) in by (has_changes s) (below_bits ss) e
  where
    by : (b : Bool) → mask_of ss < 2 ^ length ss → 2 ^ suc (length ss) ≡ 2 * 2 ^ length ss → bit_of b + 2 * mask_of ss < 2 ^ suc (length ss)
    by true h e = omega (arith, h, e)
    by false h e = omega (arith, h, e)

pub mask_small : (shape : Shape) (cs : List Change) → nat_lt (mask_of (shares_of shape cs)) (2 ^ shape.parts) ≡ true
mask_small shape cs = by (mask_of (shares_of shape cs)) (2 ^ shape.parts) (subst (λ n. mask_of (shares_of shape cs) < 2 ^ n) (length-listed (λ p. changes_at shape p cs) 0 shape.parts) (below_bits (shares_of shape cs)))
  where
    by : (a b : ℕ) → a < b → nat_lt a b ≡ true
    by a b h = grind (arith, nat_tests)
