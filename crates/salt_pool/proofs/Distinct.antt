-- Numbers with no two equal, one by one.
use Rattle.std.proofs.Common.{List, [], false, nat_eq, ℕ, ◌≡◌, ◌∷◌}
use Rattle.std.specs.List.{AllByRecursion, IsDistinct}

pub none_distinct : IsDistinct nat_eq []
unfolding IsDistinct
none_distinct = tt

pub with_first : (n : ℕ) (qs : List ℕ) → AllByRecursion (λ q. nat_eq n q ≡ false) qs → IsDistinct nat_eq qs → IsDistinct nat_eq (n ∷ qs)
unfolding IsDistinct
with_first n qs apart rest = (apart, rest)

pub first_apart : (n : ℕ) (qs : List ℕ) → IsDistinct nat_eq (n ∷ qs) → AllByRecursion (λ q. nat_eq n q ≡ false) qs
unfolding IsDistinct
first_apart n qs distinct = distinct.0

pub rest_distinct : (n : ℕ) (qs : List ℕ) → IsDistinct nat_eq (n ∷ qs) → IsDistinct nat_eq qs
unfolding IsDistinct
rest_distinct n qs distinct = distinct.1
