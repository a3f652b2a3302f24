-- Tokens one after the other, as a loop takes them.
use Rattle.std.proofs.Common.{◌≡◌, ℕ, zero, suc, ◌+◌, ◌-◌, ◌<◌, ◌≤◌, true, false, List, [], ◌∷◌, ◌++◌, length, get_or, take, drop, Option, Some, None, refl, sym, ap, ◌∙◌, arith, sub-one, append_assoc}
use Rattle.std.proofs.Math.ListN.{drop_of_length-le}
use Rattle.std.proofs.lemmas.List.{append-nil, drop-drop}
use Rattle.salt_ast.specs.Bytes.{is_blank}
use Rattle.salt_ast.specs.Pieces.{Piece}
use Rattle.salt_ast.specs.Scanning.{◌>>=◌, first_at, lex}
use Rattle.salt_ast.specs.Spans.{AreInOrder}
use Rattle.salt_ast.specs.declared.token.TokenKind.{TokenKind}
use Rattle.salt_ast.specs.declared.token.Token.{Token}
use Rattle.salt_ast.proofs.Quoted.{front}

-- what was taken before, and what is still taken
abbrev pub with_front : List Piece → Option (List Piece) → Option (List Piece)
with_front ps read = read >>= λ qs. Some (ps ++ qs)

regroup : (ps : List Piece) (p : Piece) (read : Option (List Piece)) → with_front ps (read >>= λ qs. Some (p ∷ qs)) ≡ with_front (ps ++ p ∷ []) read
regroup ps p None = refl
regroup ps p (Some qs) = ap (λ (x : List Piece). Some x) (sym (append_assoc ps (p ∷ []) qs))

-- bytes that were taken are skipped
skips : (k : ℕ) (bs : List ℕ) → k ≤ length bs → lex k bs ≡ lex 0 (drop k bs)
unfolding lex
skips zero bs le = refl
skips (suc k) [] le = absurd (omega arith)
skips (suc k) (b ∷ bs) le = skips k bs (omega arith)

pub lex_blank : (b : ℕ) (bs : List ℕ) → is_blank b ≡ true → lex 0 (b ∷ bs) ≡ lex 0 bs
unfolding lex
lex_blank b bs h = rw h refl

pub lex_token : (b : ℕ) (bs : List ℕ) (k : TokenKind) (n : ℕ) → is_blank b ≡ false → first_at (b ∷ bs) ≡ Some (k, n) → 0 < n → n ≤ suc (length bs) → lex 0 (b ∷ bs) ≡ (lex 0 (drop n (b ∷ bs)) >>= λ ps. Some (record { kind = k; text = take n (b ∷ bs) } ∷ ps))
unfolding lex
lex_token b bs k zero h f lt le = absurd (omega arith)
lex_token b bs k (suc n) h f lt le =
    let s : lex (suc n - 1) bs ≡ lex 0 (drop n bs) = rw sub-one (skips n bs (omega arith)) in
    rw (h, f, s) refl

lex_bad : (b : ℕ) (bs : List ℕ) → is_blank b ≡ false → first_at (b ∷ bs) ≡ None → lex 0 (b ∷ bs) ≡ None
unfolding lex
lex_bad b bs h f = rw (h, f) refl

pub lex_start : (bs : List ℕ) → with_front [] (lex 0 bs) ≡ lex 0 bs
lex_start bs = go (lex 0 bs)
  where
    go : (read : Option (List Piece)) → with_front [] read ≡ read
    go None = refl
    go (Some ps) = refl

module _ (bs : List ℕ) (at : ℕ) (ps : List Piece) (lt : at < length bs) (so_far : with_front ps (lex 0 (drop at bs)) ≡ lex 0 bs) where
  pub blank_goes_on : is_blank (get_or bs at 0) ≡ true → with_front ps (lex 0 (drop (at + 1) bs)) ≡ lex 0 bs
  blank_goes_on h =
      let one : lex 0 (drop at bs) ≡ lex 0 (drop (at + 1) bs) = ap (lex 0) (front at bs lt) ∙ lex_blank (get_or bs at 0) (drop (at + 1) bs) h in
      ap (with_front ps) (sym one) ∙ so_far

  pub token_goes_on : (k : TokenKind) (n : ℕ) → is_blank (get_or bs at 0) ≡ false → first_at (drop at bs) ≡ Some (k, n) → 0 < n → n ≤ length (drop at bs) → with_front (ps ++ record { kind = k; text = take n (drop at bs) } ∷ []) (lex 0 (drop (at + n) bs)) ≡ lex 0 bs
  token_goes_on k n h f pos le =
      let e = front at bs lt in
      let one : lex 0 (drop at bs) ≡ (lex 0 (drop n (drop at bs)) >>= λ qs. Some (record { kind = k; text = take n (drop at bs) } ∷ qs)) = rw e (lex_token (get_or bs at 0) (drop (at + 1) bs) k n h (rw e at f) pos (omega (arith, ap length e))) in
      ap (λ (x : List ℕ). with_front (ps ++ record { kind = k; text = take n (drop at bs) } ∷ []) (lex 0 x)) (sym (drop-drop n at bs)) ∙ sym (regroup ps (record { kind = k; text = take n (drop at bs) }) (lex 0 (drop n (drop at bs)))) ∙ ap (with_front ps) (sym one) ∙ so_far

  pub token_fails : is_blank (get_or bs at 0) ≡ false → first_at (drop at bs) ≡ None → lex 0 bs ≡ None
  token_fails h f =
      let e = front at bs lt in
      let one : lex 0 (drop at bs) ≡ None = rw e (lex_bad (get_or bs at 0) (drop (at + 1) bs) h (rw e at f)) in
      sym so_far ∙ ap (with_front ps) one

pub lex_ends : (bs : List ℕ) (at : ℕ) (ps : List Piece) → length bs ≤ at → with_front ps (lex 0 (drop at bs)) ≡ lex 0 bs → lex 0 bs ≡ Some ps
unfolding lex
lex_ends bs at ps le h =
    let one : lex 0 (drop at bs) ≡ Some [] = ap (lex 0) (drop_of_length-le bs le) in
    sym h ∙ ap (with_front ps) one ∙ ap (λ (x : List Piece). Some x) (append-nil ps)

pub AreInOrder-push : (from : ℕ) (ts : List Token) (to : ℕ) (t : Token) → AreInOrder from ts to → to ≤ t.at → 0 < t.len → AreInOrder from (ts ++ t ∷ []) (t.at + t.len)
AreInOrder-push from [] to t h le pos = (omega arith, pos, omega arith)
AreInOrder-push from (u ∷ us) to t h le pos = (h.0, h.1, AreInOrder-push (u.at + u.len) us to t h.2 le pos)

pub AreInOrder-later : (from : ℕ) (ts : List Token) (to to' : ℕ) → AreInOrder from ts to → to ≤ to' → AreInOrder from ts to'
AreInOrder-later from [] to to' h le = omega arith
AreInOrder-later from (u ∷ us) to to' h le = (h.0, h.1, AreInOrder-later (u.at + u.len) us to to' h.2 le)
