-- Names by their order and by their test.
use Rattle.salt_values.specs.Order.{id_cmp}
use Rattle.salt_values.specs.Id.{has_id}
use Rattle.law_states.specs.Rising.{Rising}
use Rattle.law_story.proofs.Lists.{or_left_true, or_right_true}
use Rattle.salt_model.specs.Words.{Every}
use Rattle.salt_values.specs.Id.{is_older, is_same_id}
use Rattle.salt_values.specs.declared.id.Id.{Id}
use Rattle.std.proofs.Common.{ap, arith, ◌∙◌}
use Rattle.std.proofs.lemmas.Bool.Decides.{nat_tests}
use Rattle.std.specs.BTreeMap.{is_at}
use Rattle.std.specs.List.{AllByRecursion, list_any}
use Rattle.std.specs.List.Sorted.{IsStrictlySortedBy}
use Rattle.std.specs.Ordering.{is_eq, nat_cmp, ordering_then}
use Rattle.std.specs.Prelude.{List, [], nat_lt, refl, true, ℕ, ◌&&◌, ◌==◌, ◌∷◌, ◌≡◌, ◌||◌}
use Rattle.std.specs.declared.cmp.Ordering.TheVariants.{Equal, Greater, Less}
use Rattle.std.specs.declared.cmp.Ordering.{Ordering}

tied : (m n : ℕ) → is_eq (nat_cmp m n) ≡ (m == n)
tied m n = grind (arith, nat_tests)

both : (o p : Ordering) → is_eq (ordering_then o p) ≡ (is_eq o && is_eq p)
both Less p = refl
both Equal p = refl
both Greater p = refl

pub same-at : (a b : Id) → is_eq (id_cmp a b) ≡ is_same_id a b
same-at a b = both (nat_cmp a.boot b.boot) (nat_cmp a.seq b.seq) ∙ (ap (λ t. t && is_eq (nat_cmp a.seq b.seq)) (tied a.boot b.boot) ∙ ap (λ t. (a.boot == b.boot) && t) (tied a.seq b.seq))

-- a set's test is membership in the list of its names
pub has-key : (q : Id) (names : List Id) → list_any (is_at (id_cmp q)) names ≡ has_id q names
has-key q [] = refl
has-key q (x ∷ xs) = ap (λ t. t || list_any (is_at (id_cmp q)) xs) (same-at q x) ∙ ap (λ t. is_same_id q x || t) (has-key q xs)

less : (m n : ℕ) → nat_cmp m n ≡ Less → nat_lt m n ≡ true
less m n h = grind (arith, nat_tests)

equal : (m n : ℕ) → nat_cmp m n ≡ Equal → (m == n) ≡ true
equal m n h = grind (arith, nat_tests)

older : (a b : Id) → id_cmp a b ≡ Less → is_older a b ≡ true
older a b h = by (nat_cmp a.boot b.boot) (nat_cmp a.seq b.seq) refl refl h
  where
    by : (o p : Ordering) → nat_cmp a.boot b.boot ≡ o → nat_cmp a.seq b.seq ≡ p → ordering_then o p ≡ Less → is_older a b ≡ true
    by Less p e f g = or_left_true (nat_lt a.boot b.boot) ((a.boot == b.boot) && nat_lt a.seq b.seq) (less a.boot b.boot e)
    by Equal p e f g = or_right_true (nat_lt a.boot b.boot) ((a.boot == b.boot) && nat_lt a.seq b.seq) (rw (equal a.boot b.boot e, less a.seq b.seq (f ∙ g)) refl)
    by Greater p e f g = cc

all-older : (a : Id) (names : List Id) → AllByRecursion (λ b. id_cmp a b ≡ Less) names → Every (λ b. is_older a b ≡ true) names
all-older a [] all = tt
all-older a (b ∷ names) all = (older a b all.0, all-older a names all.1)

-- names in order rise
pub rising : (names : List Id) → IsStrictlySortedBy id_cmp names → Rising names
unfolding IsStrictlySortedBy
rising [] sorted = tt
rising (a ∷ names) sorted = (all-older a names sorted.0, rising names sorted.1)
