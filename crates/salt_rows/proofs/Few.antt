-- At most 64 pages of a pool are to be written.
use Rattle.salt_pool.proofs.Seen.{dirty_framed}
use Rattle.salt_pool.specs.Dirtied.{IsRisingFrom, is_dirty}
use Rattle.salt_pool.specs.Pools.{IsPool}
use Rattle.salt_pool.specs.declared.places.Dirty.{Dirty}
use Rattle.salt_rows.proofs.Standing.{other_false}
use Rattle.salt_rows.specs.Frames.{Frames}
use Rattle.std.proofs.Common.{Bool, List, [], arith, ap, false, length, map, nat_eq, refl, suc, sym, true, ℕ, ◌||◌, ◌<◌, ◌==◌, ◌≡◌, ◌≤◌, ◌∙◌, ◌∷◌}
use Rattle.std.proofs.lemmas.Bool.Decides.{Decides-eqb, nat_tests}
use Rattle.std.proofs.lemmas.List.{length-map}
use Rattle.std.proofs.lemmas.Map.Steps.{length-le_from_keys}
use Rattle.std.specs.Cmp.{nat_eq_equiv}
use Rattle.std.specs.List.{AllByRecursion, IsDistinct, list_any}

abbrev pages_of : List Dirty → List ℕ
pages_of ds = map (λ (d : Dirty). d.page) ds

apart_above : (n low : ℕ) (ds : List Dirty) → n < low → IsRisingFrom low ds → AllByRecursion (λ q. nat_eq n q ≡ false) (pages_of ds)
apart_above n low [] less rising = tt
apart_above n low (d ∷ ds) less rising = (other_false n d.page (λ same. omega (arith, same, less, rising.0)), apart_above n (suc d.page) ds (omega (arith, less, rising.0)) rising.1)

distinct : (low : ℕ) (ds : List Dirty) → IsRisingFrom low ds → IsDistinct nat_eq (pages_of ds)
unfolding IsDistinct
distinct low [] rising = tt
distinct low (d ∷ ds) rising = (apart_above d.page (suc d.page) ds (omega arith) rising.1, distinct (suc d.page) ds rising.1)

dirty_in : (ds : List Dirty) (q : ℕ) → list_any (nat_eq q) (pages_of ds) ≡ true → is_dirty ds q ≡ true
dirty_in [] q is = is
dirty_in (d ∷ ds) q is = by (nat_eq q d.page) refl is (λ h. dirty_in ds q h)
  where
    either : (b : Bool) → (b || true) ≡ true
    either true = refl
    either false = refl

    by : (b : Bool) → nat_eq q d.page ≡ b → (b || list_any (nat_eq q) (pages_of ds)) ≡ true → (list_any (nat_eq q) (pages_of ds) ≡ true → is_dirty ds q ≡ true) → (nat_eq d.page q || is_dirty ds q) ≡ true
    by true e h on = ap (λ b. b || is_dirty ds q) ((Decides-eqb d.page q).1 (sym ((Decides-eqb q d.page).0 e)))
    by false e h on = ap (λ b. nat_eq d.page q || b) (on h) ∙ either (nat_eq d.page q)

pub dirty_few : (x : Frames) → IsPool x → length x.dirty.items ≤ 64
dirty_few x pool =
    let few = length-le_from_keys nat_eq_equiv (pages_of x.dirty.items) x.frames.entries (distinct 0 x.dirty.items pool.rising) (λ q there. dirty_framed x q pool (dirty_in x.dirty.items q there)) in
    omega (arith, few, length-map x.dirty.items (λ (d : Dirty). d.page), pool.few)

-- where not all of the frames are, one more can be
pub dirty_fewer : (x : Frames) → IsPool x → (full : Bool) → full ≡ (length x.dirty.items == 64) → full ≡ false → length x.dirty.items < 64
dirty_fewer x pool full is not_full =
    let few = dirty_few x pool in
    let other : (length x.dirty.items == 64) ≡ false = sym is ∙ not_full in
    grind (arith, nat_tests, few, other)
