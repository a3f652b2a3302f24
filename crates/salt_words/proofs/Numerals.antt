-- The number that a word says.
use Rattle.salt_promise.specs.Words.{count_said, is_count}
use Rattle.std.proofs.Common.{arith, rules, subst, sym}
use Rattle.std.proofs.lemmas.Bool.Decides.{nat_tests}
use Rattle.std.proofs.lemmas.Str.Parse.{IsDigitsTest, IsNumeralModel, numerals_by_value, parse_gives}
use Rattle.std.specs.Bool.{then_some}
use Rattle.std.specs.Char.{is_ascii_digit}
use Rattle.std.specs.List.{list_all}
use Rattle.std.specs.Prelude.{Bool, Err, List, None, Ok, Result, [], false, length, refl, true, ℕ, ◌&&◌, ◌<◌, ◌^◌, ◌∷◌, ◌≡◌}
use Rattle.std.specs.Str.Parse.{ParsesUnsigned, digits_value}

tests : IsDigitsTest (λ ds. list_all is_ascii_digit ds ≡ true)
tests = search rules

own : IsNumeralModel (λ ds. list_all is_ascii_digit ds ≡ true) (digits_value 10)
own = numerals_by_value (λ ds. list_all is_ascii_digit ds ≡ true) tests

some-digits : (word : List ℕ) → 0 < digits_value 10 word → 0 < length word
some-digits [] h = h
some-digits (b ∷ word) h = omega arith

counted : (most n : ℕ) → most < 2 ^ 64 → is_count most n ≡ true → (0 < n) × (n < 2 ^ 64)
counted most n fits h = (grind (arith, nat_tests, h), grind (arith, nat_tests, h))

-- a word that says a number says a number of 64 bits
pub none-said : {E : Type 0} (most : ℕ) (word : List ℕ) (r : Result ℕ E) (e : E) → most < 2 ^ 64 →
    list_all is_ascii_digit word ≡ true → ParsesUnsigned 64 10 word r → r ≡ Err e → None ≡ count_said most word
none-said most word r e fits digits parses failed = by (is_count most (digits_value 10 word)) refl
  where
    differ : (n : ℕ) → r ≡ Ok n → ⊥
    differ n is = cc

    by : (t : Bool) → is_count most (digits_value 10 word) ≡ t → None ≡ then_some (list_all is_ascii_digit word && t) (digits_value 10 word)
    by true is =
        let c = counted most (digits_value 10 word) fits is in
        absurd (differ (digits_value 10 word) (parse_gives own 64 word r parses digits (some-digits word c.0) c.1))
    by false is = subst (λ d. None ≡ then_some (d && false) (digits_value 10 word)) (sym digits) refl
