-- A lock that is just the one which is asked for is one that is held.
use Rattle.law_states.specs.Members.{In}
use Rattle.salt_locks.proofs.SameSpot.{low_is, value_is}
use Rattle.salt_locks.proofs.Spotting.{owner-is}
use Rattle.salt_locks.specs.Alike.{is_lock_of, is_same_family, is_same_mode, is_same_range}
use Rattle.salt_locks.specs.Clear.{ends_no_later}
use Rattle.salt_locks.specs.Places.{is_low_at_most}
use Rattle.salt_model.specs.Locks.{is_same_owner, lock_of}
use Rattle.salt_model.specs.declared.events.Owner.{Owner}
use Rattle.salt_model.specs.declared.locks.Family.TheVariants.{Acid, Alkaline, Saline}
use Rattle.salt_model.specs.declared.locks.Family.{Family}
use Rattle.salt_model.specs.declared.locks.Lock.{Lock}
use Rattle.salt_model.specs.declared.locks.Mode.TheVariants.{Read, Write}
use Rattle.salt_model.specs.declared.locks.Mode.{Mode}
use Rattle.salt_model.specs.declared.locks.Reach.{Reach}
use Rattle.salt_ranges.specs.declared.range.KeyRange.{KeyRange}
use Rattle.salt_values.specs.declared.value.Value.{Value}
use Rattle.std.proofs.Common.{ap, arith, inl, inr, refl}
use Rattle.std.proofs.lemmas.Bool.{and_parts, eqb-true}
use Rattle.std.specs.Prelude.{List, None, Option, Some, [], get_or, length, suc, true, zero, ℕ, ◌&&◌, ◌<◌, ◌==◌, ◌∷◌, ◌≡◌}

high_is : (a b : Option Value) → ends_no_later a b ≡ true → ends_no_later b a ≡ true → b ≡ a
high_is None None p q = refl
high_is None (Some b) p q = cc
high_is (Some a) None p q = cc
high_is (Some a) (Some b) p q = ap (λ (v : Value). Some v) (value_is b a q p)

range_is : (r s : KeyRange) → is_same_range r s ≡ true → s ≡ r
range_is r s h =
    let low = is_low_at_most r.lo s.lo in
    let low_too = is_low_at_most s.lo r.lo in
    let high = ends_no_later r.hi s.hi in
    let a = and_parts (low && low_too && high) (ends_no_later s.hi r.hi) h in
    let b = and_parts (low && low_too) high a.0 in
    let c = and_parts low low_too b.0 in
    λ i. record { lo = low_is r.lo s.lo c.0 c.1 i; hi = high_is r.hi s.hi b.1 a.1 i }

family_is : (f g : Family) → is_same_family f g ≡ true → g ≡ f
family_is Acid Acid h = refl
family_is Alkaline Alkaline h = refl
family_is Saline Saline h = refl
family_is Acid Alkaline h = cc
family_is Acid Saline h = cc
family_is Alkaline Acid h = cc
family_is Alkaline Saline h = cc
family_is Saline Acid h = cc
family_is Saline Alkaline h = cc

mode_is : (m n : Mode) → is_same_mode m n ≡ true → n ≡ m
mode_is Read Read h = refl
mode_is Write Write h = refl
mode_is Read Write h = cc
mode_is Write Read h = cc

pub lock_is : (owner : Owner) (f : Family) (r : Reach) (l : Lock) → is_lock_of owner f r l ≡ true → l ≡ lock_of owner f r
lock_is owner f r l h =
    let own = is_same_owner owner l.owner in
    let family = is_same_family f l.family in
    let mode = is_same_mode r.mode l.mode in
    let table = l.table == r.table in
    let a = and_parts (own && family && mode && table) (is_same_range r.range l.range) h in
    let b = and_parts (own && family && mode) table a.0 in
    let c = and_parts (own && family) mode b.0 in
    let d = and_parts own family c.0 in
    λ i. record {
      owner = owner-is owner l.owner d.0 i;
      family = family_is f l.family d.1 i;
      mode = mode_is r.mode l.mode c.1 i;
      table = eqb-true l.table r.table b.1 i;
      range = range_is r.range l.range a.1 i;
    }

pub in-got : {X : Type 0} (xs : List X) (k : ℕ) (d : X) → k < length xs → In (get_or xs k d) xs
in-got [] k d h = absurd (omega (arith, h))
in-got (x ∷ xs) zero d h = inl refl
in-got (x ∷ xs) (suc k) d h = inr (in-got xs k d (omega (arith, h)))
