-- A page is made dirty: what is kept of the dirty ones with it, and that there is room.
use Rattle.salt_pool.proofs.Clean.{looked_up, pages_of, dirty_is}
use Rattle.salt_pool.proofs.Distinct.{none_distinct, with_first}
use Rattle.salt_pool.proofs.Numbers.{equal, true_is_not_false}
use Rattle.salt_pool.proofs.Pigeons.{AreAmong, pigeons}
use Rattle.salt_pool.specs.Dirtied.{AreSides, IsRisingFrom, is_dirty, put_dirty}
use Rattle.salt_pool.specs.Flushing.{AreFramed}
use Rattle.salt_pool.specs.declared.places.Dirty.{Dirty}
use Rattle.std.proofs.Common.{Bool, List, [], ap, arith, cond, false, is_some, length, nat_eq, refl, subst, suc, sym, true, ℕ, ◌||◌, ◌<◌, ◌≡◌, ◌≤◌, ◌∙◌, ◌∷◌}
use Rattle.std.proofs.lemmas.Bool.Decides.{nat_tests}
use Rattle.std.proofs.lemmas.List.{length-map}
use Rattle.std.specs.List.{AllByRecursion, IsDistinct, list_any}
use Rattle.std.specs.Map.{keys_of, lookup}
use Rattle.std.specs.Prelude.{nat_lt}

-- pages that are above one are not this one
apart_above : (n low : ℕ) (ds : List Dirty) → n < low → IsRisingFrom low ds → AllByRecursion (λ q. nat_eq n q ≡ false) (pages_of ds)
apart_above n low [] below rising = tt
apart_above n low (d ∷ ds) below rising =
    let here : n < d.page = omega (arith, below, rising.0) in
    (grind (arith, nat_tests), apart_above n (suc d.page) ds (omega (arith, here)) rising.1)

pub not_above : (n low : ℕ) (ds : List Dirty) → n < low → IsRisingFrom low ds → is_dirty ds n ≡ false
not_above n low [] below rising = refl
not_above n low (d ∷ ds) below rising =
    let here : n < d.page = omega (arith, below, rising.0) in
    let first : nat_eq d.page n ≡ false = grind (arith, nat_tests) in
    (λ i. first i || not_above n (suc d.page) ds (omega (arith, here)) rising.1 i)

pub rising_put : (low : ℕ) (d : Dirty) (ds : List Dirty) → low ≤ d.page → IsRisingFrom low ds → IsRisingFrom low (put_dirty d ds)
rising_put low d [] high rising = (high, tt)
rising_put low d (e ∷ ds) high rising = by (nat_lt e.page d.page) refl (nat_eq e.page d.page) refl (λ above. rising_put (suc e.page) d ds above rising.1)
  where
    by : (b : Bool) → nat_lt e.page d.page ≡ b → (c : Bool) → nat_eq e.page d.page ≡ c → (suc e.page ≤ d.page → IsRisingFrom (suc e.page) (put_dirty d ds)) → IsRisingFrom low (cond (nat_lt e.page d.page) (e ∷ put_dirty d ds) (cond (nat_eq e.page d.page) (d ∷ ds) (d ∷ e ∷ ds)))
    by true less c is on =
        let above : suc e.page ≤ d.page = grind (arith, nat_tests) in
        rw less (rising.0, on above)
    by false less true is on =
        let it : e.page ≡ d.page = equal e.page d.page is in
        rw less (rw is (high, subst (λ n. IsRisingFrom (suc n) ds) it rising.1))
    by false less false is on =
        let above : suc d.page ≤ e.page = grind (arith, nat_tests) in
        rw less (rw is (high, (above, rising.1)))

pub sides_put : (d : Dirty) (ds : List Dirty) → d.side ≤ 1 → AreSides ds → AreSides (put_dirty d ds)
sides_put d [] side sides = (side, tt)
sides_put d (e ∷ ds) side sides = by (nat_lt e.page d.page) (nat_eq e.page d.page) (sides_put d ds side sides.1)
  where
    by : (b c : Bool) → AreSides (put_dirty d ds) → AreSides (cond b (e ∷ put_dirty d ds) (cond c (d ∷ ds) (d ∷ e ∷ ds)))
    by true c on = (sides.0, on)
    by false true on = (side, sides.1)
    by false false on = (side, (sides.0, sides.1))

distinct : (low : ℕ) (ds : List Dirty) → IsRisingFrom low ds → IsDistinct nat_eq (pages_of ds)
distinct low [] rising = none_distinct
distinct low (d ∷ ds) rising = with_first d.page (pages_of ds) (apart_above d.page (suc d.page) ds (omega arith) rising.1) (distinct (suc d.page) ds rising.1)

module _ {X : Type 0} where
  pub framed_put : (d : Dirty) (ds : List Dirty) (es : List (ℕ × X)) → is_some (lookup (nat_eq d.page) es) ≡ true → AreFramed es ds → AreFramed es (put_dirty d ds)
  framed_put d [] es own framed = (own, tt)
  framed_put d (e ∷ ds) es own framed = by (nat_lt e.page d.page) (nat_eq e.page d.page) (framed_put d ds es own framed.1)
    where
      by : (b c : Bool) → AreFramed es (put_dirty d ds) → AreFramed es (cond b (e ∷ put_dirty d ds) (cond c (d ∷ ds) (d ∷ e ∷ ds)))
      by true c on = (framed.0, on)
      by false true on = (own, framed.1)
      by false false on = (own, (framed.0, framed.1))

  among_keys : (ds : List Dirty) (es : List (ℕ × X)) → AreFramed es ds → AreAmong (pages_of ds) (keys_of es)
  among_keys [] es framed = tt
  among_keys (d ∷ ds) es framed = (sym (looked_up d.page es) ∙ framed.0, among_keys ds es framed.1)

  -- a page that has a frame and is not dirty leaves fewer dirty ones than there are frames
  pub has_room : (page : ℕ) (ds : List Dirty) (es : List (ℕ × X)) → is_some (lookup (nat_eq page) es) ≡ true → is_dirty ds page ≡ false → IsRisingFrom 0 ds → AreFramed es ds → length ds < length es
  has_room page ds es own clean rising framed =
      let apart : AllByRecursion (λ q. nat_eq page q ≡ false) (pages_of ds) = none_of (pages_of ds) (sym (dirty_is ds page) ∙ clean) in
      let few : length (page ∷ pages_of ds) ≤ length (keys_of es) = pigeons (page ∷ pages_of ds) (keys_of es) (with_first page (pages_of ds) apart (distinct 0 ds rising)) (sym (looked_up page es) ∙ own, among_keys ds es framed) in
      let one : length (keys_of es) ≡ length es = length-map es (λ e. e.0) in
      let two : length (pages_of ds) ≡ length ds = length-map ds (λ d. d.page) in
      omega (arith, few, one, two)
    where
      none_of : (qs : List ℕ) → list_any (nat_eq page) qs ≡ false → AllByRecursion (λ q. nat_eq page q ≡ false) qs
      none_of [] none = tt
      none_of (q ∷ qs) none = first (nat_eq page q) refl (λ h. none_of qs h)
        where
          first : (b : Bool) → nat_eq page q ≡ b → (list_any (nat_eq page) qs ≡ false → AllByRecursion (λ r. nat_eq page r ≡ false) qs) → (nat_eq page q ≡ false) × AllByRecursion (λ r. nat_eq page r ≡ false) qs
          first true is on = absurd (true_is_not_false (ap (λ t. t || list_any (nat_eq page) qs) (sym is) ∙ none))
          first false is on = (is, on (ap (λ t. t || list_any (nat_eq page) qs) (sym is) ∙ none))
