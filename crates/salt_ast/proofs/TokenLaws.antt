-- A row of tokens is what the scan takes, and the other way round.
use Rattle.std.proofs.Common.{◌≡◌, ℕ, zero, suc, ◌+◌, ◌-◌, ◌<◌, ◌≤◌, ◌⊎◌, inl, inr, Bool, true, false, cond, eqb, List, [], ◌∷◌, ◌++◌, length, take, drop, Option, Some, None, is_some, refl, sym, ap, subst, ◌∙◌, arith, add-one, sub-one, length-append, take-append-drop}
use Rattle.std.proofs.lemmas.Bool.Decides.{nat_tests}
use Rattle.std.proofs.lemmas.List.{take_at, drop_at}
use Rattle.std.proofs.lemmas.Bool.{eqb-true}
use Rattle.std.specs.List.{prefix_len}
use Rattle.salt_ast.specs.declared.token.TokenKind.{TokenKind}
use Rattle.salt_ast.specs.declared.token.TokenKind.TheVariants.{Word, Int, Text, Sign}
use Rattle.salt_ast.specs.Pieces.{Piece, EachPasses, NotNext, doubled, IsToken, EndsToken, Lexes, ended, blank, token}
use Rattle.salt_ast.specs.Scanning.{◌>>=◌, more, quoted_at, sign_at, first_at, lex, Gives}
use Rattle.salt_ast.specs.Spans.{pieces}
use Rattle.std.specs.Prelude.{Result, Ok, Err, IfOk}
use Rattle.salt_ast.specs.declared.token.Token.{Token}
use Rattle.salt_ast.specs.declared.error.ScanErr.{ScanErr}
use Rattle.salt_ast.specs.declared.error.ScanErr.TheVariants.{Syntax}
use Rattle.std.proofs.lemmas.List.Sums.{prefix_len-le-length}
use Rattle.salt_ast.proofs.Quoted.{quoted_at-within}
use Rattle.salt_ast.specs.TokenSpelling.{sign_of}
use Rattle.salt_ast.proofs.SpellingLaws.{AreSignBytes, sign_is, is_sign, sign_bytes, no_three}
use Rattle.salt_ast.proofs.Steps.{lex_blank, lex_token}
use Rattle.salt_ast.specs.Bytes.{is_blank, is_digit, is_letter, is_word, is_printable}

letter_not_blank : (b : ℕ) → is_letter b ≡ true → is_blank b ≡ false
letter_not_blank b h = grind (arith, nat_tests)

digit_not_blank : (b : ℕ) → is_digit b ≡ true → is_blank b ≡ false
digit_not_blank b h = grind (arith, nat_tests)

digit_not_letter : (b : ℕ) → is_digit b ≡ true → is_letter b ≡ false
digit_not_letter b h = grind (arith, nat_tests)

abbrev found : {A : Type 0} → A → Option A
found x = Some x

some_is : {A : Type 0} (x y : A) → found x ≡ found y → x ≡ y
some_is x y e = cc

bind_some : {A B : Type 0} (o : Option A) (f : A → Option B) (y : B) → (o >>= f) ≡ Some y → (x : A) × (o ≡ Some x) × (f x ≡ Some y)
bind_some None f y e = absurd cc
bind_some (Some x) f y e = (x, refl, e)

-- which way a test went
chosen : {A : Type 0} (b : Bool) (x y z : A) → cond b x y ≡ z → ((b ≡ true) × (x ≡ z)) ⊎ ((b ≡ false) × (y ≡ z))
chosen true x y z h = inl (refl, h)
chosen false x y z h = inr (refl, h)

-- ---- a run of bytes that pass

run_len : (p : ℕ → Bool) (text rest : List ℕ) → EachPasses p text → NotNext p rest → prefix_len p (text ++ rest) ≡ length text
run_len p [] [] h k = refl
run_len p [] (b ∷ rest) h k = rw k refl
run_len p (b ∷ text) rest h k = rw (h.0, run_len p text rest h.1 k) (omega arith)

run_take : (p : ℕ → Bool) (bs : List ℕ) → EachPasses p (take (prefix_len p bs) bs) × NotNext p (drop (prefix_len p bs) bs)
run_take p [] = (tt, tt)
run_take p (b ∷ bs) = go (p b) refl (run_take p bs)
  where
    go : (t : Bool) → p b ≡ t → EachPasses p (take (prefix_len p bs) bs) × NotNext p (drop (prefix_len p bs) bs) → EachPasses p (take (cond t (1 + prefix_len p bs) 0) (b ∷ bs)) × NotNext p (drop (cond t (1 + prefix_len p bs) 0) (b ∷ bs))
    go true e ih = let k : 1 + prefix_len p bs ≡ suc (prefix_len p bs) = omega arith in rw k ((e, ih.0), ih.1)
    go false e ih = (tt, e)

-- ---- a text in quotes

is_quote : ℕ → Bool
is_quote b = eqb b 39

quoted_len : (content rest : List ℕ) → EachPasses is_printable content → NotNext (λ b. eqb b 39) rest → quoted_at false ((doubled content ++ 39 ∷ []) ++ rest) ≡ Some (length (doubled content) + 1)
unfolding quoted_at
quoted_len [] [] h k = refl
quoted_len [] (b ∷ rest) h k = rw k refl
quoted_len (b ∷ content) rest h k = go (eqb b 39) refl (quoted_len content rest h.1 k)
  where
    go : (t : Bool) → eqb b 39 ≡ t → quoted_at false ((doubled content ++ 39 ∷ []) ++ rest) ≡ Some (length (doubled content) + 1) → quoted_at false ((cond t (39 ∷ 39 ∷ doubled content) (b ∷ doubled content) ++ 39 ∷ []) ++ rest) ≡ Some (length (cond t (39 ∷ 39 ∷ doubled content) (b ∷ doubled content)) + 1)
    go true e ih = rw ih (ap (λ (n : ℕ). Some n) (omega arith))
    go false e ih = rw (e, h.0, ih) (ap (λ (n : ℕ). Some n) (omega arith))

-- what stands up to the last quote; after a quote there may be nothing
IsRest : Bool → List ℕ → Type 0
IsRest false text = (content : List ℕ) × EachPasses is_printable content × (text ≡ doubled content ++ 39 ∷ [])
IsRest true text = (text ≡ []) ⊎ ((content : List ℕ) × EachPasses is_printable content × (text ≡ 39 ∷ (doubled content ++ 39 ∷ [])))

abbrev IsTextOf : Bool → List ℕ → ℕ → Type 0
IsTextOf flag bs n = IsRest flag (take n bs) × NotNext (λ b. eqb b 39) (drop n bs)

step_is : (o : Option ℕ) (n : ℕ) → more 1 o ≡ Some n → (k : ℕ) × (o ≡ Some k) × (n ≡ suc k)
step_is None n h = absurd cc
step_is (Some k) n h = let e : k + 1 ≡ n = cc h in (k, refl, omega arith)

quoted_sound : (flag : Bool) (bs : List ℕ) (n : ℕ) → quoted_at flag bs ≡ Some n → IsTextOf flag bs n
unfolding quoted_at IsRest
quoted_sound false [] n h = absurd cc
quoted_sound true [] n h = let e : 0 ≡ n = cc h in subst (λ (m : ℕ). IsTextOf true [] m) e (inl refl, tt)
quoted_sound false (b ∷ bs) n h = go (eqb b 39) refl (is_printable b) refl (λ k e. quoted_sound true bs k e) (λ k e. quoted_sound false bs k e) h
  where
    go : (t : Bool) → eqb b 39 ≡ t → (p : Bool) → is_printable b ≡ p → ((k : ℕ) → quoted_at true bs ≡ Some k → IsTextOf true bs k) → ((k : ℕ) → quoted_at false bs ≡ Some k → IsTextOf false bs k) → cond t (more 1 (quoted_at true bs)) (cond p (more 1 (quoted_at false bs)) None) ≡ Some n → IsTextOf false (b ∷ bs) n
    go true e p q f g h =
        let s = step_is (quoted_at true bs) n h in
        let r = f s.0 s.1 in
        let is : b ≡ 39 = eqb-true b 39 e in
        subst (λ (m : ℕ). IsTextOf false (b ∷ bs) m) (sym s.2) (
          elim r.0 [
            | inl none ↦ ([], tt, rw (is, none) refl)
            | inr c ↦ (39 ∷ c.0, (refl, c.1), rw (is, c.2) refl)
          ],
          r.1,
        )
    go false e true q f g h =
        let s = step_is (quoted_at false bs) n h in
        let r = g s.0 s.1 in
        subst (λ (m : ℕ). IsTextOf false (b ∷ bs) m) (sym s.2) ((b ∷ r.0.0, (q, r.0.1), rw (e, r.0.2) refl), r.1)
    go false e false q f g h = absurd cc
quoted_sound true (b ∷ bs) n h = go (eqb b 39) refl (λ k e. quoted_sound false bs k e) h
  where
    go : (t : Bool) → eqb b 39 ≡ t → ((k : ℕ) → quoted_at false bs ≡ Some k → IsTextOf false bs k) → cond t (more 1 (quoted_at false bs)) (Some 0) ≡ Some n → IsTextOf true (b ∷ bs) n
    go true e g h =
        let s = step_is (quoted_at false bs) n h in
        let r = g s.0 s.1 in
        let is : b ≡ 39 = eqb-true b 39 e in
        subst (λ (m : ℕ). IsTextOf true (b ∷ bs) m) (sym s.2) (inr (r.0.0, r.0.1, rw (is, r.0.2) refl), r.1)
    go false e g h = let z : 0 ≡ n = cc h in subst (λ (m : ℕ). IsTextOf true (b ∷ bs) m) z (inl refl, e)

-- ---- the token at the front

abbrev IsFirst : List ℕ → TokenKind × ℕ → Type 0
IsFirst bs t = IsToken t.0 (take t.1 bs) × EndsToken t.0 (take t.1 bs) (drop t.1 bs) × (0 < t.1) × (t.1 ≤ length bs)

same_first : (bs : List ℕ) (k : TokenKind) (m n : ℕ) → m ≡ n → IsFirst bs (k, m) → IsFirst bs (k, n)
same_first bs k m n e h = subst (λ (x : ℕ). IsFirst bs (k, x)) e h

-- no third byte goes on with a sign of two
pair_ends : (a b : ℕ) (rest : List ℕ) → NotNext (λ c. is_some (sign_of (a ∷ b ∷ c ∷ []))) rest
pair_ends a b [] = tt
pair_ends a b (c ∷ rest) = no_three a b c

sign_sound : (bs : List ℕ) (n : ℕ) → sign_at bs ≡ Some n → IsFirst bs (Sign, n)
sign_sound [] n h = absurd cc
sign_sound (a ∷ []) n h =
    elim (chosen (is_some (sign_of (a ∷ []))) (Some 1) None (Some n) h) [
      | inl p ↦ (let e : 1 ≡ n = cc p.1 in same_first (a ∷ []) Sign 1 n e (sign_is (a ∷ []) p.0, tt, omega arith, omega arith))
      | inr p ↦ absurd (cc p.1)
    ]
sign_sound (a ∷ b ∷ bs) n h =
    elim (chosen (is_some (sign_of (a ∷ b ∷ []))) (Some 2) (cond (is_some (sign_of (a ∷ []))) (Some 1) None) (Some n) h) [
      | inl p ↦ (let e : 2 ≡ n = cc p.1 in same_first (a ∷ b ∷ bs) Sign 2 n e (sign_is (a ∷ b ∷ []) p.0, pair_ends a b bs, omega arith, omega arith))
      | inr p ↦ elim (chosen (is_some (sign_of (a ∷ []))) (Some 1) None (Some n) p.1) [
        | inl q ↦ (let e : 1 ≡ n = cc q.1 in same_first (a ∷ b ∷ bs) Sign 1 n e (sign_is (a ∷ []) q.0, p.0, omega arith, omega arith))
        | inr q ↦ absurd (cc q.1)
      ]
    ]

word_first : (b : ℕ) (bs : List ℕ) → is_letter b ≡ true → IsFirst (b ∷ bs) (Word, prefix_len is_word bs + 1)
word_first b bs h = let r = run_take is_word bs in rw add-one ((h, r.0), r.1, omega arith, omega (arith, prefix_len-le-length is_word bs))

int_first : (b : ℕ) (bs : List ℕ) → is_digit b ≡ true → IsFirst (b ∷ bs) (Int, prefix_len is_digit bs + 1)
int_first b bs h = let r = run_take is_digit bs in rw add-one ((h, r.0), r.1, omega arith, omega (arith, prefix_len-le-length is_digit bs))

text_first : (b : ℕ) (bs : List ℕ) (n : ℕ) → eqb b 39 ≡ true → quoted_at false bs ≡ Some n → IsFirst (b ∷ bs) (Text, n + 1)
unfolding IsRest
text_first b bs n e h =
    let r = quoted_sound false bs n h in
    let is : b ≡ 39 = eqb-true b 39 e in
    rw add-one ((r.0.0, r.0.1, rw (is, r.0.2) refl), r.1, omega arith, omega (arith, quoted_at-within false bs n h))

first_sound : (bs : List ℕ) (t : TokenKind × ℕ) → first_at bs ≡ Some t → IsFirst bs t
unfolding first_at
first_sound [] t h = absurd cc
first_sound (b ∷ bs) t h =
    elim (chosen (is_letter b) _ _ _ h) [
      | inl p ↦ subst (λ (x : TokenKind × ℕ). IsFirst (b ∷ bs) x) (some_is _ t p.1) (word_first b bs p.0)
      | inr p ↦ elim (chosen (is_digit b) _ _ _ p.1) [
        | inl q ↦ subst (λ (x : TokenKind × ℕ). IsFirst (b ∷ bs) x) (some_is _ t q.1) (int_first b bs q.0)
        | inr q ↦ elim (chosen (eqb b 39) _ _ _ q.1) [
          | inl r ↦ (let k = bind_some (quoted_at false bs) (λ n. Some (Text, n + 1)) t r.1 in subst (λ (x : TokenKind × ℕ). IsFirst (b ∷ bs) x) (some_is _ t k.2) (text_first b bs k.0 r.0 k.1))
          | inr r ↦ (let k = bind_some (sign_at (b ∷ bs)) (λ n. Some (Sign, n)) t r.1 in subst (λ (x : TokenKind × ℕ). IsFirst (b ∷ bs) x) (some_is _ t k.2) (sign_sound (b ∷ bs) k.0 k.1))
        ]
      ]
    ]

-- the bytes of the token at the front
pub token_at_front : (bs : List ℕ) (k : TokenKind) (n : ℕ) → first_at bs ≡ Some (k, n) → IsToken k (take n bs)
token_at_front bs k n h = (first_sound bs (k, n) h).0

sign_complete : (text rest : List ℕ) → is_some (sign_of text) ≡ true → AreSignBytes text → EndsToken Sign text rest → first_at (text ++ rest) ≡ Some (Sign, length text)
unfolding first_at
sign_complete [] rest is h e = absurd h
sign_complete (a ∷ []) rest is h e = rw (h.letter, h.digit, h.quote) (one rest e)
  where
    one : (rest : List ℕ) → NotNext (λ b. is_some (sign_of (a ∷ b ∷ []))) rest → ◌>>=◌ {B = TokenKind × ℕ} (sign_at (a ∷ rest)) (λ n. Some (Sign, n)) ≡ Some (Sign, 1)
    one [] k = rw is refl
    one (b ∷ rest) k = rw (k, is) refl
sign_complete (a ∷ b ∷ []) rest is h e = rw (h.letter, h.digit, h.quote, is) refl
sign_complete (a ∷ b ∷ c ∷ cs) rest is h e = absurd h

first_complete : (k : TokenKind) (text rest : List ℕ) → IsToken k text → EndsToken k text rest → first_at (text ++ rest) ≡ Some (k, length text)
unfolding first_at
first_complete Word [] rest h e = absurd h
first_complete Word (b ∷ text) rest h e = rw (h.0, run_len is_word text rest h.1 e) (ap (λ (n : ℕ). Some (Word, n)) (omega arith))
first_complete Int [] rest h e = absurd h
first_complete Int (b ∷ text) rest h e = rw (digit_not_letter b h.0, h.0, run_len is_digit text rest h.1 e) (ap (λ (n : ℕ). Some (Int, n)) (omega arith))
first_complete Text text rest h e =
    rw h.2 (rw (quoted_len h.0 rest h.1 e) (ap (λ (n : ℕ). Some (Text, n)) (omega (arith, length-append (doubled h.0) (39 ∷ [])))))
first_complete Sign text rest h e = sign_complete text rest (is_sign text h) (sign_bytes text h) e

-- ---- the whole row

pub lex_sound : (skip : ℕ) (bs : List ℕ) (ps : List Piece) → skip ≤ length bs → lex skip bs ≡ Some ps → Lexes (drop skip bs) ps
unfolding lex
lex_sound zero [] ps le h = subst (λ (x : List Piece). Lexes [] x) (some_is [] ps h) ended
lex_sound (suc skip) [] ps le h = absurd (omega arith)
lex_sound (suc skip) (b ∷ bs) ps le h = lex_sound skip bs ps (omega arith) h
lex_sound zero (b ∷ bs) ps le h = go (λ k qs l e. lex_sound k bs qs l e) (chosen (is_blank b) _ _ _ h)
  where
    go : ((k : ℕ) (qs : List Piece) → k ≤ length bs → lex k bs ≡ Some qs → Lexes (drop k bs) qs) → ((is_blank b ≡ true) × (lex 0 bs ≡ Some ps)) ⊎ ((is_blank b ≡ false) × ((first_at (b ∷ bs) >>= λ t. lex (t.1 - 1) bs >>= λ ps. Some (record { kind = t.0; text = take t.1 (b ∷ bs) } ∷ ps)) ≡ Some ps)) → Lexes (b ∷ bs) ps
    go ih (inl p) = blank p.0 (ih 0 ps (omega arith) p.1)
    go ih (inr p) = at_token t.0.0 t.0.1 (first_sound (b ∷ bs) t.0 t.1) t.2
      where
        t : (x : TokenKind × ℕ) × (first_at (b ∷ bs) ≡ Some x) × ((lex (x.1 - 1) bs >>= λ ps. Some (record { kind = x.0; text = take x.1 (b ∷ bs) } ∷ ps)) ≡ Some ps)
        t = bind_some (first_at (b ∷ bs)) (λ t. lex (t.1 - 1) bs >>= λ ps. Some (record { kind = t.0; text = take t.1 (b ∷ bs) } ∷ ps)) ps p.1

        at_token : (k : TokenKind) (n : ℕ) → IsFirst (b ∷ bs) (k, n) → (lex (n - 1) bs >>= λ ps. Some (record { kind = k; text = take n (b ∷ bs) } ∷ ps)) ≡ Some ps → Lexes (b ∷ bs) ps
        at_token k zero f e = absurd (omega (arith, f.2))
        at_token k (suc n) f e =
            let r = bind_some (lex (suc n - 1) bs) (λ ps. Some (record { kind = k; text = take (suc n) (b ∷ bs) } ∷ ps)) ps e in
            let one : suc n - 1 ≡ n = rw sub-one refl in
            let rest = ih n r.0 (omega (arith, f.3)) (subst (λ (m : ℕ). lex m bs ≡ Some r.0) one r.1) in
            let whole = token k (take (suc n) (b ∷ bs)) f.0 f.1 rest in
            subst (λ (x : List ℕ). Lexes x ps) (take-append-drop (suc n) (b ∷ bs)) (subst (λ (x : List Piece). Lexes (take (suc n) (b ∷ bs) ++ drop (suc n) (b ∷ bs)) x) (some_is _ ps r.2) whole)

sign_not_blank : (b : ℕ) (text : List ℕ) → AreSignBytes (b ∷ text) → is_blank b ≡ false
sign_not_blank b [] h = h.blank
sign_not_blank b (c ∷ []) h = h.blank
sign_not_blank b (c ∷ d ∷ ds) h = absurd h

not_blank : (k : TokenKind) (b : ℕ) (text : List ℕ) → IsToken k (b ∷ text) → is_blank b ≡ false
not_blank Word b text h = letter_not_blank b h.0
not_blank Int b text h = digit_not_blank b h.0
not_blank Text b text h = let e : b ≡ 39 = cc h.2 in rw e refl
not_blank Sign b text h = sign_not_blank b text (sign_bytes (b ∷ text) h)

not_empty : (k : TokenKind) → IsToken k [] → ⊥
not_empty Word h = h
not_empty Int h = h
not_empty Text h = cc h.2
not_empty Sign h = sign_bytes [] h

pub lex_complete : {bs : List ℕ} {ps : List Piece} → Lexes bs ps → lex 0 bs ≡ Some ps
unfolding lex
lex_complete ended = refl
lex_complete (blank {b = b} {bs = bs} h d) = lex_blank b bs h ∙ lex_complete d
lex_complete (token {rest = rest} {ps = ps} k text h e d) = go text h e (lex_complete d)
  where
    go : (text : List ℕ) → IsToken k text → EndsToken k text rest → lex 0 rest ≡ Some ps → lex 0 (text ++ rest) ≡ Some (record { kind = k; text = text } ∷ ps)
    go [] h e ih = absurd (not_empty k h)
    go (b ∷ text) h e ih =
        lex_token b (text ++ rest) k (length (b ∷ text)) (not_blank k b text h) (first_complete k (b ∷ text) rest h e) (omega arith) (omega (arith, length-append text rest))
        ∙ rw (drop_at (b ∷ text) rest (length (b ∷ text)) refl, take_at (b ∷ text) rest (length (b ∷ text)) refl, ih) refl

-- no row is one of bytes that give none
pub no_row : (bs : List ℕ) (ps : List Piece) → lex 0 bs ≡ None → Lexes bs ps → ⊥
no_row bs ps n d = let p : None ≡ found ps = sym n ∙ lex_complete d in cc

pub is_found : (bs : List ℕ) (r : Result (List Token) ScanErr) → Gives bs r (lex 0 bs) → IfOk r (λ ts. Lexes bs (pieces bs ts))
is_found bs (Ok ts) h = lex_sound 0 bs (pieces bs ts) (omega arith) h
is_found bs (Err e) h = tt

pub none_is : (bs : List ℕ) (r : Result (List Token) ScanErr) → Gives bs r (lex 0 bs) → r ≡ Err Syntax → (ps : List Piece) → ¬ (Lexes bs ps)
none_is bs r h e ps d = let n : lex 0 bs ≡ None = subst (λ (x : Result (List Token) ScanErr). Gives bs x (lex 0 bs)) e h in let p : None ≡ found ps = sym n ∙ lex_complete d in cc

pub one_row : (bs : List ℕ) (ps qs : List Piece) → Lexes bs ps → Lexes bs qs → ps ≡ qs
one_row bs ps qs d k = some_is ps qs (sym (lex_complete d) ∙ lex_complete k)
