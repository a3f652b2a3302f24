-- A unit that is found in a list whose names rise is the one of its name.
use Rattle.law_states.proofs.Rising.{named-at}
use Rattle.law_states.specs.OpenUnits.{OpenUnit, names_in, unit_named}
use Rattle.law_states.specs.Rising.{Rising}
use Rattle.std.proofs.Common.{ap, arith, subst}
use Rattle.std.specs.List.{find}
use Rattle.std.specs.Prelude.{Bool, List, None, Some, [], cond, false, get_or, length, suc, true, zero, ℕ, ◌<◌, ◌∷◌, ◌≡◌}

-- it stands at a place of the list
record IsThere {A : Type 0} (x : A) (xs : List A) : Type 0 where
  at : ℕ
  within : at < length xs
  is : get_or xs at x ≡ x

is-there : {A : Type 0} (p : A → Bool) (xs : List A) (x : A) → find p xs ≡ Some x → IsThere x xs
is-there p [] x h = cc
is-there p (y ∷ ys) x h = by (p y) h (is-there p ys x)
  where
    some : y ≡ x → IsThere x (y ∷ ys)
    some e = record { at = zero; within = omega arith; is = e }

    by : (b : Bool) → cond b (Some y) (find p ys) ≡ Some x → (find p ys ≡ Some x → IsThere x ys) → IsThere x (y ∷ ys)
    by true e more = some (ap (λ o. elim o [ None ↦ y | Some z ↦ z ]) e)
    by false e more =
        let t = more e in
        let w = t.within in
        record { at = suc t.at; within = omega arith; is = t.is }

pub found-named : (p : OpenUnit → Bool) (os : List OpenUnit) (o : OpenUnit) → Rising (names_in os) → find p os ≡ Some o → unit_named o.unit os ≡ Some o
found-named p os o rises h =
    let t = is-there p os o h in
    subst (λ (x : OpenUnit). unit_named x.unit os ≡ Some x) t.is (named-at os t.at o rises t.within)
