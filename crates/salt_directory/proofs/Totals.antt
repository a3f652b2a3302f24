-- The free bytes of pages on the whole.
use Rattle.salt_directory.specs.Space.{IsSumOf}
use Rattle.std.proofs.Common.{List, [], arith, get_or, length, refl, set, ℕ, ◌*◌, ◌+◌, ◌++◌, ◌-◌, ◌<◌, ◌≡◌, ◌≤◌, ◌∷◌}
use Rattle.std.proofs.lemmas.List.Elements.{All-push, All-set}
use Rattle.std.proofs.lemmas.List.Sums.{get_or-le-sum_by, sum_by-le, sum_by-set, sum_by_push}

pub none_summed : IsSumOf [] 0
none_summed = record { is = refl; small = λ k d low. absurd (omega (arith, low)) }

module _ (free : List ℕ) (total : ℕ) (is : IsSumOf free total) where
  pub total_small : total ≤ 65535 * length free
  total_small = omega (arith, is.is, sum_by-le (λ n. n) 65535 free is.small)

  pub summed_push : (n : ℕ) → n ≤ 65535 → IsSumOf (free ++ n ∷ []) (total + n)
  summed_push n small = record { is = omega (arith, is.is, sum_by_push (λ n. n) free n); small = All-push (λ n. n ≤ 65535) free n is.small small }

  pub summed_set : (at n more less : ℕ) → at < length free → n ≤ 65535 → more ≡ n → less ≡ get_or free at 0 → IsSumOf (set free at n) (total + more - less)
  summed_set at n more less low small is_more is_less = record {
    is = omega (arith, is.is, sum_by-set (λ n. n) free at n 0 low, get_or-le-sum_by (λ n. n) free at 0 low, is_more, is_less);
    small = All-set (λ n. n ≤ 65535) free at n small is.small;
  }
