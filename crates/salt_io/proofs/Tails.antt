-- The tail in which bytes end.
use Rattle.std.proofs.Common.{◌≡◌, ℕ, suc, ◌+◌, ◌-◌, ◌≤◌, false, List, [], ◌∷◌, ◌++◌, length, get_or, take, drop, sym, ◌∙◌, ap, append_assoc, arith, drop-cons}
use Rattle.std.proofs.Math.ListN.{drop_of_length-le}
use Rattle.std.proofs.lemmas.Bool.{ne_eqb}
use Rattle.std.proofs.lemmas.List.{append-nil, take-append-drop}
use Rattle.salt_io.specs.LineText.{EndsInTail}
use Rattle.salt_io.specs.Lines.{ends_in}
use Rattle.salt_io.specs.declared.line_text.Tail.TheVariants.{Nothing, Cr, Backslash, BackslashCr}
use Rattle.salt_io.proofs.Ends.{ends_in-append}

-- the last two bytes
last_two : (bytes : List ℕ) (m n : ℕ) → length bytes ≡ m + 2 → n ≡ m + 1 → bytes ≡ take m bytes ++ get_or bytes m 0 ∷ get_or bytes n 0 ∷ []
last_two bytes m n long next =
    let step : suc m ≡ n = omega arith in
    let short : length bytes ≤ suc n = omega arith in
    let none : drop (suc n) bytes ≡ [] = drop_of_length-le bytes short in
    sym (take-append-drop m bytes)
    ∙ ap (λ rest. take m bytes ++ rest) (drop-cons bytes m 0 (omega arith))
    ∙ ap (λ k. take m bytes ++ get_or bytes m 0 ∷ drop k bytes) step
    ∙ ap (λ rest. take m bytes ++ get_or bytes m 0 ∷ rest) (drop-cons bytes n 0 (omega arith) ∙ ap (λ rest. get_or bytes n 0 ∷ rest) none)

ends_otherwise : (n : ℕ) (text front : List ℕ) (last : ℕ) → (last ≡ n → ⊥) → ends_in n (text ++ (front ++ last ∷ [])) ≡ false
ends_otherwise n text front last other = ap (ends_in n) (sym (append_assoc text front (last ∷ []))) ∙ ends_in-append n (text ++ front) last ∙ ne_eqb last n other

pub two_at_the_end : (bytes : List ℕ) → 2 ≤ length bytes → bytes ≡ take (length bytes - 2) bytes ++ get_or bytes (length bytes - 2) 0 ∷ get_or bytes (length bytes - 1) 0 ∷ []
two_at_the_end bytes two = last_two bytes (length bytes - 2) (length bytes - 1) (omega arith) (omega arith)

-- Below, bytes and the last two of them.

last_apart : (bytes first : List ℕ) (before last : ℕ) → bytes ≡ first ++ before ∷ last ∷ [] → bytes ≡ (first ++ before ∷ []) ++ last ∷ []
last_apart bytes first before last whole = whole ∙ sym (append_assoc first (before ∷ []) (last ∷ []))

pub tail-backslash : (bytes first : List ℕ) (before last : ℕ) → bytes ≡ first ++ before ∷ last ∷ [] → last ≡ 92 → EndsInTail bytes Backslash
tail-backslash bytes first before last whole is = record {
  front = first ++ before ∷ [];
  whole = last_apart bytes first before last whole ∙ ap (λ byte. (first ++ before ∷ []) ++ byte ∷ []) is;
  cut = λ text. tt;
}

pub tail-nothing : (bytes first : List ℕ) (before last : ℕ) → bytes ≡ first ++ before ∷ last ∷ [] → (last ≡ 92 → ⊥) → (last ≡ 13 → ⊥) → EndsInTail bytes Nothing
tail-nothing bytes first before last whole no_backslash no_cr = record {
  front = bytes;
  whole = sym (append-nil bytes);
  cut = λ text. (other text 13 no_cr, other text 92 no_backslash);
} where
  other : (text : List ℕ) (n : ℕ) → (last ≡ n → ⊥) → ends_in n (text ++ bytes) ≡ false
  other text n ne = ap (λ more. ends_in n (text ++ more)) (last_apart bytes first before last whole) ∙ ends_otherwise n text (first ++ before ∷ []) last ne

pub tail-backslash_cr : (bytes first : List ℕ) (before last : ℕ) → bytes ≡ first ++ before ∷ last ∷ [] → before ≡ 92 → last ≡ 13 → EndsInTail bytes BackslashCr
tail-backslash_cr bytes first before last whole is_backslash is_cr = record {
  front = first;
  whole = whole ∙ ap (λ byte. first ++ byte ∷ last ∷ []) is_backslash ∙ ap (λ byte. first ++ 92 ∷ byte ∷ []) is_cr;
  cut = λ text. tt;
}

pub tail-cr : (bytes first : List ℕ) (before last : ℕ) → bytes ≡ first ++ before ∷ last ∷ [] → (before ≡ 92 → ⊥) → last ≡ 13 → EndsInTail bytes Cr
tail-cr bytes first before last whole no_backslash is_cr = record {
  front = first ++ before ∷ [];
  whole = last_apart bytes first before last whole ∙ ap (λ byte. (first ++ before ∷ []) ++ byte ∷ []) is_cr;
  cut = λ text. ends_otherwise 92 text first before no_backslash;
}
