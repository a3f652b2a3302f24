-- Parts by their numbers.
use Rattle.salt_ast.specs.Paths.{at_number}
use Rattle.std.proofs.Common.{Bor, List, None, Option, Some, [], arith, get_or, is_some, length, nat_lt, refl, subst, suc, sym, zero, ℕ, ◌-◌, ◌<◌, ◌∙◌, ◌∷◌, ◌≡◌, ◌≢◌, ◌≤◌}
use Rattle.std.proofs.lemmas.Bool.Decides.{nat_tests}
use Rattle.std.proofs.lemmas.Option.{get_or_from_slice_get, slice_get_past, slice_get_read, slice_get_within}
use Rattle.std.specs.List.{All, slice_get}
use Rattle.std.specs.Option.{option_copied}
use Rattle.std.specs.Prelude.{IfSome}

pub number_zero : {A : Type 0} (xs : List A) → at_number zero xs ≡ None
number_zero [] = refl
number_zero (x ∷ xs) = refl

pub at_number-slice_get : {A : Type 0} (xs : List A) (i : ℕ) → at_number (suc i) xs ≡ slice_get xs i
at_number-slice_get [] i = refl
at_number-slice_get (x ∷ xs) zero = refl
at_number-slice_get (x ∷ xs) (suc i) = at_number-slice_get xs i

pub slice_get-at_number : {A : Type 0} (xs : List A) (k : ℕ) → k ≢ 0 → slice_get xs (k - 1) ≡ at_number k xs
slice_get-at_number xs zero h = absurd (h refl)
slice_get-at_number xs (suc i) h = let e : suc i - 1 ≡ i = omega arith in rw e (rw (at_number-slice_get xs i) refl)

-- an element as a slice gives it
pub lent : {A : Type 0} (xs : List A) (i : ℕ) (r : Option (Bor A)) → is_some r ≡ nat_lt i (length xs) → IfSome r (λ x. x.now ≡ get_or xs i x.now) →
    option_copied r ≡ slice_get xs i
lent xs i None h s = sym (slice_get_past xs i (grind (arith, nat_tests)))
lent xs i (Some x) h s = sym (slice_get_read xs (length xs) i x.now refl (grind (arith, nat_tests)) s)

-- what stands at a number is there
pub number_within : {A : Type 0} (xs : List A) (k : ℕ) (x : A) → at_number k xs ≡ Some x → k ≤ length xs
number_within xs zero x is = omega arith
number_within xs (suc i) x is =
    let within : i < length xs = slice_get_within xs i x (sym (at_number-slice_get xs i) ∙ is) in omega (arith, within)

-- and a fact of all is one of it
pub all_at_number : {A : Type 0} (P : A → Type 0) (xs : List A) (k : ℕ) (x : A) → All P xs → at_number k xs ≡ Some x → P x
all_at_number P xs zero x all is = absurd (cc (sym (number_zero xs) ∙ is))
all_at_number P xs (suc i) x all is =
    let got : slice_get xs i ≡ Some x = sym (at_number-slice_get xs i) ∙ is in
    subst P (get_or_from_slice_get xs i x x got) (all i x (slice_get_within xs i x got))
