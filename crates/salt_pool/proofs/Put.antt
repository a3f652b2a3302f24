-- A page is put among dirty ones: in the place of the one that is found, or between those below and those above.
use Rattle.salt_pool.specs.Dirtied.{IsRisingFrom, dirty_page, is_dirty, put_dirty}
use Rattle.salt_pool.specs.declared.places.Dirty.{Dirty}
use Rattle.std.proofs.Common.{Equal, Greater, Less, List, Ordering, [], ap, arith, false, get_or, length, nat_cmp, nat_eq, refl, set, subst, suc, true, zero, ℕ, ◌<◌, ◌≡◌, ◌≤◌, ◌∷◌}
use Rattle.std.proofs.lemmas.Bool.Decides.{nat_tests}
use Rattle.std.proofs.lemmas.Cmp.{ranked}
use Rattle.std.specs.List.Sorted.{IsNonDecreasingBy, IsPartitionPoint}
use Rattle.std.specs.List.{AllWithin, insert}
use Rattle.std.specs.Ordering.{MatchOrdering, ordering_index}
use Rattle.std.specs.Prelude.{nat_lt}

each_above : (low : ℕ) (ds : List Dirty) → IsRisingFrom low ds → (i : ℕ) (e : Dirty) → i < length ds → low ≤ (get_or ds i e).page
each_above low [] rising i e within = absurd (omega (arith, within))
each_above low (d ∷ ds) rising zero e within = rising.0
each_above low (d ∷ ds) rising (suc i) e within =
    let rest = each_above (suc d.page) ds rising.1 i e (omega (arith, within)) in
    omega (arith, rising.0, rest)

none_falls : (low : ℕ) (ds : List Dirty) → IsRisingFrom low ds → IsNonDecreasingBy dirty_page ds
none_falls low [] rising i j e upto within = absurd (omega (arith, within))
none_falls low (d ∷ ds) rising zero zero e upto within = omega arith
none_falls low (d ∷ ds) rising zero (suc j) e upto within =
    let more = each_above (suc d.page) ds rising.1 j e (omega (arith, within)) in
    omega (arith, more)
none_falls low (d ∷ ds) rising (suc i) zero e upto within = absurd (omega (arith, upto))
none_falls low (d ∷ ds) rising (suc i) (suc j) e upto within = none_falls (suc d.page) ds rising.1 i j e (omega (arith, upto)) (omega (arith, within))

rank_follows : (page m n : ℕ) → m ≤ n → ordering_index (nat_cmp m page) ≤ ordering_index (nat_cmp n page)
rank_follows page m n upto = by (nat_cmp m page) (nat_cmp n page) (ranked m page (nat_cmp m page) refl) (ranked n page (nat_cmp n page) refl)
  where
    by : (a b : Ordering) → MatchOrdering a (m < page) (m ≡ page) (page < m) → MatchOrdering b (n < page) (n ≡ page) (page < n) → ordering_index a ≤ ordering_index b
    by Less b x y = omega arith
    by Equal Less x y = absurd (omega (arith, upto, x, y))
    by Equal Equal x y = omega arith
    by Equal Greater x y = omega arith
    by Greater Less x y = absurd (omega (arith, upto, x, y))
    by Greater Equal x y = absurd (omega (arith, upto, x, y))
    by Greater Greater x y = omega arith

-- so they can be searched by halves
searchable : (page : ℕ) (ds : List Dirty) → IsRisingFrom 0 ds → IsNonDecreasingBy (λ d. ordering_index (nat_cmp d.page page)) ds
searchable page ds rising i j e upto within = rank_follows page (get_or ds i e).page (get_or ds j e).page (none_falls 0 ds rising i j e upto within)

pub put_found : (low : ℕ) (d : Dirty) (ds : List Dirty) → IsRisingFrom low ds → (at : ℕ) → at < length ds → ((e : Dirty) → nat_cmp (get_or ds at e).page d.page ≡ Equal) → set ds at d ≡ put_dirty d ds
put_found low d [] rising at within is = absurd (omega (arith, within))
put_found low d (e ∷ ds) rising zero within is =
    let same : e.page ≡ d.page = subst (λ o. MatchOrdering o (e.page < d.page) (e.page ≡ d.page) (d.page < e.page)) (is e) (ranked e.page d.page (nat_cmp e.page d.page) refl) in
    let not_less : nat_lt e.page d.page ≡ false = grind (arith, nat_tests, same) in
    let equal : nat_eq e.page d.page ≡ true = grind (arith, nat_tests, same) in
    rw (not_less, equal) refl
put_found low d (e ∷ ds) rising (suc at) within is =
    let same : (get_or ds at e).page ≡ d.page = subst (λ o. MatchOrdering o ((get_or ds at e).page < d.page) ((get_or ds at e).page ≡ d.page) (d.page < (get_or ds at e).page)) (is e) (ranked (get_or ds at e).page d.page (nat_cmp (get_or ds at e).page d.page) refl) in
    let more = each_above (suc e.page) ds rising.1 at e (omega (arith, within)) in
    let less : nat_lt e.page d.page ≡ true = grind (arith, nat_tests, same, more) in
    rw less (ap (λ t. e ∷ t) (put_found (suc e.page) d ds rising.1 at (omega (arith, within)) is))

put_between : (d : Dirty) (ds : List Dirty) (at : ℕ) → at ≤ length ds → AllWithin (λ e. nat_cmp e.page d.page ≡ Less) ds 0 at → AllWithin (λ e. nat_cmp e.page d.page ≡ Greater) ds at (length ds)
    → (insert ds at d ≡ put_dirty d ds) × (is_dirty ds d.page ≡ false)
put_between d [] zero within below above = (refl, refl)
put_between d [] (suc at) within below above = absurd (omega (arith, within))
put_between d (e ∷ ds) zero within below above =
    let more : d.page < e.page = subst (λ o. MatchOrdering o (e.page < d.page) (e.page ≡ d.page) (d.page < e.page)) (above 0 e (omega arith) (omega arith)) (ranked e.page d.page (nat_cmp e.page d.page) refl) in
    let not_less : nat_lt e.page d.page ≡ false = grind (arith, nat_tests, more) in
    let other : nat_eq e.page d.page ≡ false = grind (arith, nat_tests, more) in
    let rest = put_between d ds zero (omega arith) (λ k f low high. absurd (omega (arith, high))) (λ k f low high. above (suc k) f (omega arith) (omega (arith, high))) in
    (rw (not_less, other) refl, rw other rest.1)
put_between d (e ∷ ds) (suc at) within below above =
    let less : e.page < d.page = subst (λ o. MatchOrdering o (e.page < d.page) (e.page ≡ d.page) (d.page < e.page)) (below 0 e (omega arith) (omega arith)) (ranked e.page d.page (nat_cmp e.page d.page) refl) in
    let is_less : nat_lt e.page d.page ≡ true = grind (arith, nat_tests, less) in
    let other : nat_eq e.page d.page ≡ false = grind (arith, nat_tests, less) in
    let rest = put_between d ds at (omega (arith, within)) (λ k f low high. below (suc k) f (omega arith) (omega (arith, high))) (λ k f low high. above (suc k) f (omega (arith, low)) (omega (arith, high))) in
    (rw is_less (ap (λ t. e ∷ t) rest.0), rw other rest.1)

-- it is not found, and a search by halves says where it goes
pub put_missing : (d : Dirty) (ds searched : List Dirty) (at : ℕ) → searched ≡ ds → IsRisingFrom 0 ds → at ≤ length searched
    → (IsNonDecreasingBy (λ (e : Dirty). ordering_index (nat_cmp e.page d.page)) searched → IsPartitionPoint (λ (e : Dirty). nat_cmp e.page d.page ≡ Less) (λ (e : Dirty). nat_cmp e.page d.page ≡ Greater) searched at)
    → (at ≤ length ds) × (insert ds at d ≡ put_dirty d ds) × (is_dirty ds d.page ≡ false)
put_missing d ds searched at same rising within splits =
    let upto : at ≤ length ds = subst (λ (l : List Dirty). at ≤ length l) same within in
    let split = subst (λ (l : List Dirty). IsNonDecreasingBy (λ (e : Dirty). ordering_index (nat_cmp e.page d.page)) l → IsPartitionPoint (λ (e : Dirty). nat_cmp e.page d.page ≡ Less) (λ (e : Dirty). nat_cmp e.page d.page ≡ Greater) l at) same splits (searchable d.page ds rising) in
    let put = put_between d ds at upto split.0 split.1 in
    (upto, put.0, put.1)
