-- The number that digits write, as a loop goes over them.
use Rattle.std.proofs.Common.{◌^◌, ◌≡◌, ℕ, zero, suc, ◌+◌, ◌-◌, ◌*◌, ◌<◌, ◌≤◌, Bool, true, List, [], ◌∷◌, length, get_or, take, min, ◌∙◌, ap, arith}
use Rattle.std.proofs.lemmas.Bool.Decides.{nat_tests}
use Rattle.std.proofs.lemmas.Int.Digits.{digits_value_more}
use Rattle.std.specs.Char.{digit_value}
use Rattle.std.specs.Str.Parse.{AllDigits, digits_value}
use Rattle.std.specs.Fmt.{decimal}
use Rattle.std.proofs.lemmas.Str.Parse.{digit_at}
use Rattle.std.proofs.lemmas.Fmt.{decimal_is_IsNumeral}
use Rattle.salt_ast.specs.declared.token.TokenKind.TheVariants.{Int}
use Rattle.salt_ast.specs.Symbols.{int, largest_int, symbol_by}
use Rattle.salt_ast.specs.Bytes.{is_digit}
use Rattle.salt_ast.specs.Pieces.{EachPasses, IsToken}

run_at : (p : ℕ → Bool) (xs : List ℕ) (i : ℕ) → EachPasses p xs → i < length xs → p (get_or xs i 0) ≡ true
run_at p [] i h lt = absurd (omega arith)
run_at p (x ∷ xs) zero h lt = h.0
run_at p (x ∷ xs) (suc i) h lt = run_at p xs i h.1 (omega arith)

digit_range : (d : ℕ) → is_digit d ≡ true → (48 ≤ d) × (d ≤ 57)
digit_range d h = (grind (arith, nat_tests), grind (arith, nat_tests))

pub digit_from : (xs : List ℕ) (i : ℕ) → EachPasses is_digit xs → i < length xs → (48 ≤ get_or xs i 0) × (get_or xs i 0 ≤ 57)
digit_from xs i h lt = digit_range (get_or xs i 0) (run_at is_digit xs i h lt)

digit_value_is : (d : ℕ) → 48 ≤ d → d ≤ 57 → digit_value d ≡ d - 48
digit_value_is d a b = grind (arith, nat_tests)

capped_more : (v d most n m : ℕ) → d ≤ 9 → 9 ≤ most → n ≡ min (min v most * 10) most → m ≡ min (n + d) most → m ≡ min (v * 10 + d) most
capped_more v d most n m small large a b = omega arith

-- one more digit, where the number stays at the most once it is past it
pub number_more : (xs : List ℕ) (i most n m : ℕ) → EachPasses is_digit xs → i < length xs → 9 ≤ most → n ≡ min (min (digits_value 10 (take i xs)) most * 10) most → m ≡ min (n + (get_or xs i 0 - 48)) most → m ≡ min (digits_value 10 (take (i + 1) xs)) most
number_more xs i most n m h lt large a b =
    let r = digit_from xs i h lt in
    let value = digit_value_is (get_or xs i 0) r.0 r.1 in
    let more : digits_value 10 (take (i + 1) xs) ≡ digits_value 10 (take i xs) * 10 + (get_or xs i 0 - 48) = digits_value_more 10 xs i lt ∙ ap (λ (k : ℕ). digits_value 10 (take i xs) * 10 + k) value in
    rw more (capped_more (digits_value 10 (take i xs)) (get_or xs i 0 - 48) most n m (omega (arith, r)) large a b)

-- ---- a number that is written

digit_is : (d : ℕ) → 48 ≤ d → d ≤ 57 → is_digit d ≡ true
digit_is d a b = grind (arith, nat_tests)

digits_run : (ds : List ℕ) → AllDigits 10 ds → EachPasses is_digit ds
digits_run [] h = tt
digits_run (d ∷ ds) h = let r = digit_at (d ∷ ds) 0 h (omega arith) in (digit_is d r.0 r.1, digits_run ds h.1)

digits_token : (ds : List ℕ) → 0 < length ds → EachPasses is_digit ds → IsToken Int ds
digits_token [] lt h = absurd (omega arith)
digits_token (d ∷ ds) lt h = h

pub decimal_token : (n : ℕ) → n < 2 ^ 64 → IsToken Int (decimal n)
decimal_token n lt = let is = decimal_is_IsNumeral n lt in digits_token (decimal n) is.0.0 (digits_run (decimal n) is.0.1)

not_capped : (v n most : ℕ) → v ≡ n → n ≤ most → min v most ≡ n
not_capped v n most is le = omega arith

pub decimal_symbol : (n : ℕ) → n < 2 ^ 64 → symbol_by Int (decimal n) ≡ int n
decimal_symbol n lt = let is = decimal_is_IsNumeral n lt in ap (λ (k : ℕ). int k) (not_capped (digits_value 10 (decimal n)) n largest_int is.1 (omega arith))
