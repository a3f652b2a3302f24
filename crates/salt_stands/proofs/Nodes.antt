-- The nodes of a unit's changes: a unit may have them, and they are those of the partitions that have some of the changes.
use Rattle.salt_net.specs.Flags.{are_nodes, has_node}
use Rattle.salt_model.specs.Words.{is_empty}
use Rattle.salt_place.specs.declared.placement.Shape.{Shape}
use Rattle.salt_stands.proofs.Booleans.{join}
use Rattle.salt_stands.specs.Placed.{changes_at, nodes_from, nodes_in}
use Rattle.salt_values.specs.declared.change.Change.{Change}
use Rattle.std.proofs.Common.{Bool, List, ap, arith, false, refl, subst, true, ℕ, ◌≡◌, ◌∙◌}
use Rattle.std.proofs.lemmas.Bool.Decides.{nat_tests}
use Rattle.std.specs.Prelude.{cond, nat_le, not, suc, zero, ◌&&◌, ◌+◌, ◌<◌, ◌==◌, ◌||◌, ◌≤◌, ◌∷◌}

apart : (p k : ℕ) → k ≤ p → (suc p == k) ≡ false
apart p k h = grind (arith, nat_tests, h)

numbered : (p : ℕ) → suc p ≤ 8 → (nat_le 1 (suc p) && nat_le (suc p) 8) ≡ true
numbered p h = join (nat_le 1 (suc p)) (nat_le (suc p) 8) (grind (arith, nat_tests)) (grind (arith, nat_tests, h))

itself : (m : ℕ) → (suc m == suc m) ≡ true
itself m = grind (arith, nat_tests)

module _ (shape : Shape) (cs : List Change) where
  -- behind p stand none of p or below
  none_below : (p n k : ℕ) → k ≤ p → has_node k (nodes_from shape cs p n) ≡ false
  none_below p zero k h = refl
  none_below p (suc n) k h = by (is_empty (changes_at shape p cs)) (none_below (suc p) n k (omega (arith, h)))
    where
      by : (t : Bool) → has_node k (nodes_from shape cs (suc p) n) ≡ false →
          has_node k (cond t (nodes_from shape cs (suc p) n) (suc p ∷ nodes_from shape cs (suc p) n)) ≡ false
      by true more = more
      by false more = ap (λ t. t || has_node k (nodes_from shape cs (suc p) n)) (apart p k h) ∙ more

  are_from : (p n : ℕ) → p + n ≤ 8 → are_nodes (nodes_from shape cs p n) ≡ true
  are_from p zero h = refl
  are_from p (suc n) h = by (is_empty (changes_at shape p cs)) (are_from (suc p) n (omega (arith, h)))
    where
      by : (t : Bool) → are_nodes (nodes_from shape cs (suc p) n) ≡ true →
          are_nodes (cond t (nodes_from shape cs (suc p) n) (suc p ∷ nodes_from shape cs (suc p) n)) ≡ true
      by true more = more
      by false more =
          join (nat_le 1 (suc p) && nat_le (suc p) 8) (not (has_node (suc p) (nodes_from shape cs (suc p) n)) && are_nodes (nodes_from shape cs (suc p) n))
          (numbered p (omega (arith, h)))
          (join (not (has_node (suc p) (nodes_from shape cs (suc p) n))) _ (ap not (none_below (suc p) n (suc p) (omega arith))) more)

  same_node : (p n : ℕ) → (t : Bool) → has_node (suc p) (cond t (nodes_from shape cs (suc p) n) (suc p ∷ nodes_from shape cs (suc p) n)) ≡ not t
  same_node p n true = none_below (suc p) n (suc p) (omega arith)
  same_node p n false = ap (λ t. t || has_node (suc p) (nodes_from shape cs (suc p) n)) (itself p)

  other_node : (p n k : ℕ) → (suc p == suc k) ≡ false → (t : Bool) →
      has_node (suc k) (cond t (nodes_from shape cs (suc p) n) (suc p ∷ nodes_from shape cs (suc p) n)) ≡ has_node (suc k) (nodes_from shape cs (suc p) n)
  other_node p n k e true = refl
  other_node p n k e false = ap (λ t. t || has_node (suc k) (nodes_from shape cs (suc p) n)) e

  which_from : (p n k : ℕ) → p ≤ k → k < p + n → has_node (suc k) (nodes_from shape cs p n) ≡ not (is_empty (changes_at shape k cs))
  which_from p zero k low high = absurd (omega (arith, low, high))
  which_from p (suc n) k low high = at (p == k) refl (λ l h. which_from (suc p) n k l h)
    where
      at : (t : Bool) → (p == k) ≡ t → (suc p ≤ k → k < suc p + n → has_node (suc k) (nodes_from shape cs (suc p) n) ≡ not (is_empty (changes_at shape k cs))) →
          has_node (suc k) (nodes_from shape cs p (suc n)) ≡ not (is_empty (changes_at shape k cs))
      at true e more =
          let m : p ≡ k = grind (arith, nat_tests, e) in
          subst (λ j. has_node (suc j) (nodes_from shape cs p (suc n)) ≡ not (is_empty (changes_at shape j cs))) m (same_node p n (is_empty (changes_at shape p cs)))
      at false e more =
          other_node p n k (grind (arith, nat_tests, e)) (is_empty (changes_at shape p cs))
          ∙ more (grind (arith, nat_tests, e, low)) (omega (arith, high))

  pub nodes_may_be : shape.parts ≤ 8 → are_nodes (nodes_in shape cs) ≡ true
  nodes_may_be h = are_from 0 shape.parts (omega (arith, h))

  pub nodes_which : (p : ℕ) → p < shape.parts → has_node (p + 1) (nodes_in shape cs) ≡ not (is_empty (changes_at shape p cs))
  nodes_which p h = ap (λ q. has_node q (nodes_in shape cs)) (next p) ∙ which_from 0 shape.parts p (omega arith) (omega (arith, h))
    where
      next : (m : ℕ) → m + 1 ≡ suc m
      next m = omega arith
