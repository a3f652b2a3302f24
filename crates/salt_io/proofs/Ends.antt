-- The last bytes of a text.
use Rattle.std.proofs.Common.{◌≡◌, ℕ, false, eqb, List, [], ◌∷◌, ◌++◌, refl, ap}
use Rattle.salt_io.specs.Lines.{ends_in, front, spaced, without_cr}

pub ends_in-append : (byte : ℕ) (text : List ℕ) (last : ℕ) → ends_in byte (text ++ last ∷ []) ≡ eqb last byte
ends_in-append byte [] last = refl
ends_in-append byte (x ∷ []) last = refl
ends_in-append byte (x ∷ y ∷ ys) last = ends_in-append byte (y ∷ ys) last

pub front-append : (text : List ℕ) (last : ℕ) → front (text ++ last ∷ []) ≡ text
front-append [] last = refl
front-append (x ∷ []) last = refl
front-append (x ∷ y ∷ ys) last = ap (λ rest. x ∷ rest) (front-append (y ∷ ys) last)

pub spaced-append : (text : List ℕ) (last : ℕ) → spaced (text ++ last ∷ []) ≡ text ++ 32 ∷ []
spaced-append text last = ap (λ first. first ++ 32 ∷ []) (front-append text last)

pub without_cr-none : (text : List ℕ) → ends_in 13 text ≡ false → without_cr text ≡ text
without_cr-none text e = rw e

pub without_cr-append : (text : List ℕ) → without_cr (text ++ 13 ∷ []) ≡ text
without_cr-append text = rw (ends_in-append 13 text 13) (front-append text 13)

-- a text with a last byte is not empty
pub append-is-some : (xs : List ℕ) (y : ℕ) → xs ++ y ∷ [] ≡ [] → ⊥
append-is-some [] y e = cc
append-is-some (x ∷ xs) y e = cc
