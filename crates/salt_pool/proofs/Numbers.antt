-- Numbers that are tested for being equal.
use Rattle.std.proofs.Common.{false, nat_eq, refl, true, ℕ, ◌≡◌}
use Rattle.std.proofs.lemmas.Bool.Decides.{Decides-eqb}

pub same : (n : ℕ) → nat_eq n n ≡ true
same n = (Decides-eqb n n).1 refl

pub equal : (a b : ℕ) → nat_eq a b ≡ true → a ≡ b
equal a b = (Decides-eqb a b).0

pub true_is_not_false : true ≡ false → ⊥
true_is_not_false e = cc
