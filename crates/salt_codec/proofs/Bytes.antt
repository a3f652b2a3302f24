-- Bytes and numbers at the front of bytes.
use Rattle.byteorder.specs.Endian.{big_number}
use Rattle.salt_bytes.proofs.Only.{bytes_only}
use Rattle.salt_bytes.specs.Numbers.{take_16, take_32, take_64}
use Rattle.salt_bytes.specs.Taking.{give, go_on, take_bytes}
use Rattle.std.proofs.Common.{List, None, Some, [], ap, arith, drop, length, length-drop, refl, suc, sym, take, zero, ℕ, ◌-◌, ◌<◌, ◌≡◌, ◌≤◌, ◌∙◌, ◌∷◌}
use Rattle.std.specs.Int.{from_be_bytes, w16, w32, w64}

pub few : (n : ℕ) (bytes : List ℕ) → length bytes < n → take_bytes n bytes ≡ None
few zero bytes less = absurd (omega (arith, less))
few (suc n) [] less = refl
few (suc n) (b ∷ bytes) less = ap (go_on (λ taken. give (b ∷ taken))) (few n bytes (omega (arith, less)))

pub enough : (n : ℕ) (bytes : List ℕ) → n ≤ length bytes → take_bytes n bytes ≡ Some (take n bytes, drop n bytes)
enough zero bytes more = refl
enough (suc n) [] more = absurd (omega (arith, more))
enough (suc n) (b ∷ bytes) more = ap (go_on (λ taken. give (b ∷ taken))) (enough n bytes (omega (arith, more)))

-- so many were taken
pub has_length : (n : ℕ) (bytes front rest : List ℕ) → take_bytes n bytes ≡ Some (front, rest) → length front ≡ n
has_length n bytes front rest e = (bytes_only n bytes front rest e).1

big_is_64 : (bytes : List ℕ) → from_be_bytes w64 bytes ≡ big_number 8 bytes
big_is_64 bytes = omega arith

big_is_32 : (bytes : List ℕ) → from_be_bytes w32 bytes ≡ big_number 4 bytes
big_is_32 bytes = omega arith

pub number_64 : (bytes front rest : List ℕ) (n : ℕ) → take_bytes 8 bytes ≡ Some (front, rest) → n ≡ big_number 8 front → take_64 bytes ≡ Some (n, rest)
number_64 bytes front rest n e is = ap (go_on (λ bs. give (from_be_bytes w64 bs))) e ∙ ap (λ (m : ℕ). Some (m, rest)) (big_is_64 front) ∙ rw is refl

pub number_32 : (bytes front rest : List ℕ) (n : ℕ) → take_bytes 4 bytes ≡ Some (front, rest) → n ≡ big_number 4 front → take_32 bytes ≡ Some (n, rest)
number_32 bytes front rest n e is = ap (go_on (λ bs. give (from_be_bytes w32 bs))) e ∙ ap (λ (m : ℕ). Some (m, rest)) (big_is_32 front) ∙ rw is refl

big_is_16 : (bytes : List ℕ) → from_be_bytes w16 bytes ≡ big_number 2 bytes
big_is_16 bytes = omega arith

pub number_16 : (bytes front rest : List ℕ) (n : ℕ) → take_bytes 2 bytes ≡ Some (front, rest) → n ≡ big_number 2 front → take_16 bytes ≡ Some (n, rest)
number_16 bytes front rest n e is = ap (go_on (λ bs. give (from_be_bytes w16 bs))) e ∙ ap (λ (m : ℕ). Some (m, rest)) (big_is_16 front) ∙ rw is refl

all_taken : (n : ℕ) (xs : List ℕ) → length xs ≤ n → take n xs ≡ xs
all_taken zero [] h = refl
all_taken zero (x ∷ xs) h = absurd (omega (arith, h))
all_taken (suc n) [] h = refl
all_taken (suc n) (x ∷ xs) h = ap (λ (l : List ℕ). x ∷ l) (all_taken n xs (omega (arith, h)))

-- as many as there are behind
pub enough_to_end : (n : ℕ) (bytes : List ℕ) → n ≤ length bytes → take_bytes n bytes ≡ Some (take n bytes, take (length bytes - n) (drop n bytes))
enough_to_end n bytes more = enough n bytes more ∙ ap (λ (l : List ℕ). Some (take n bytes, l)) (sym (all_taken (length bytes - n) (drop n bytes) (omega (arith, length-drop n bytes))))
