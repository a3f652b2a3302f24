-- Where the first arrow outside quotes stands: behind a statement.
use Rattle.law_texts.specs.Arrow.{Place, after, dash, inside, next, onward, open_place}
use Rattle.law_texts.proofs.Quiet.{Quiet, is_greater, is_minus}
use Rattle.salt_ast.specs.Bytes.{is_blank, is_digit, is_letter, is_word}
use Rattle.salt_ast.specs.Pieces.{First, IsToken, Lexes, Piece, EachPasses, blank, doubled, ended, token}
use Rattle.salt_ast.specs.TokenSpelling.{keyword_of, sign_of, sign_spelling}
use Rattle.salt_ast.specs.Symbols.{Symbol, symbols_of, sign, sign_symbol, symbol_by, word_symbol}
use Rattle.salt_ast.specs.declared.keyword.Keyword.{Keyword}
use Rattle.salt_ast.specs.declared.sign.Sign.TheVariants as mark
use Rattle.salt_ast.specs.declared.sign.Sign.{Sign}
use Rattle.salt_ast.specs.declared.token.TokenKind.TheVariants as kind
use Rattle.salt_ast.specs.declared.token.TokenKind.{TokenKind}
use Rattle.std.proofs.Common.{Bool, List, None, Option, Some, [], ap, append_assoc, cond, eqb, false, refl, subst, sym, true, true≢false, ℕ, ◌&&◌}
use Rattle.std.proofs.Common.{◌++◌, ◌∙◌, ◌∷◌, ◌≡◌}
use Rattle.std.proofs.lemmas.Bool.{eqb-true}

abbrev place : Bool → Place
place true = dash
place false = open_place

-- one byte is not another, where a test tells them apart
pub other : (p : ℕ → Bool) (b c : ℕ) → p b ≡ true → p c ≡ false → eqb b c ≡ false
other p b c holds fails = go (eqb b c) refl
  where
    go : (t : Bool) → eqb b c ≡ t → t ≡ false
    go true e = absurd (true≢false (sym holds ∙ ap p (eqb-true b c e) ∙ fails))
    go false e = refl

next_by : (p : ℕ → Bool) (m : Bool) (b : ℕ) → p b ≡ true → p 62 ≡ false → p 39 ≡ false → p 45 ≡ false → next (place m) b ≡ Some open_place
next_by p true b h x y z = rw (other p b 62 h x, other p b 39 h y, other p b 45 h z)
next_by p false b h x y z = rw (other p b 39 h y, other p b 45 h z)

step : (p q : Place) (b : ℕ) (bs : List ℕ) → next p b ≡ Some q → after p (b ∷ bs) ≡ after q bs
step p q b bs h = ap (λ (o : Option Place). onward o (λ r. after r bs) bs) h

run_after : (p : ℕ → Bool) (text rest : List ℕ) → EachPasses p text → p 62 ≡ false → p 39 ≡ false → p 45 ≡ false →
    after open_place (text ++ rest) ≡ after open_place rest
run_after p [] rest h x y z = refl
run_after p (b ∷ text) rest h x y z = step open_place open_place b (text ++ rest) (next_by p false b h.0 x y z) ∙ run_after p text rest h.1 x y z

first_after : (p q : ℕ → Bool) (m : Bool) (text rest : List ℕ) → First p q text → p 62 ≡ false → p 39 ≡ false → p 45 ≡ false → q 62 ≡ false →
    q 39 ≡ false → q 45 ≡ false → after (place m) (text ++ rest) ≡ after open_place rest
first_after p q m [] rest h x y z u v w = absurd h
first_after p q m (b ∷ text) rest h x y z u v w =
    step (place m) open_place b (text ++ rest) (next_by p m b h.0 x y z) ∙ run_after q text rest h.1 u v w

doubled_after : (content rest : List ℕ) → after inside (doubled content ++ rest) ≡ after inside rest
doubled_after [] rest = refl
doubled_after (b ∷ content) rest = go (eqb b 39) refl (doubled_after content rest)
  where
    go : (t : Bool) → eqb b 39 ≡ t → after inside (doubled content ++ rest) ≡ after inside rest →
        after inside (cond t (39 ∷ 39 ∷ doubled content) (b ∷ doubled content) ++ rest) ≡ after inside rest
    go true e ih = ih
    go false e ih = step inside inside b (doubled content ++ rest) (rw e refl) ∙ ih

quote_next : (m : Bool) → next (place m) 39 ≡ Some inside
quote_next true = refl
quote_next false = refl

quoted_after : (m : Bool) (content rest : List ℕ) → after (place m) ((39 ∷ (doubled content ++ 39 ∷ [])) ++ rest) ≡ after open_place rest
quoted_after m content rest =
    step (place m) inside 39 ((doubled content ++ 39 ∷ []) ++ rest) (quote_next m)
    ∙ ap (after inside) (append_assoc (doubled content) (39 ∷ []) rest)
    ∙ doubled_after content (39 ∷ rest)

sign_after : (m : Bool) (s : Sign) (rest : List ℕ) → (m && is_greater (sign s)) ≡ false →
    after (place m) (sign_spelling s ++ rest) ≡ after (place (is_minus (sign s))) rest
sign_after true mark.Greater rest h = absurd (true≢false h)
sign_after true mark.AtLeast rest h = absurd (true≢false h)
sign_after true s rest h = refl
sign_after false mark.Minus rest h = refl
sign_after false s rest h = refl

word_no_minus : (text : List ℕ) (found : Option Keyword) → is_minus (word_symbol text found) ≡ false
word_no_minus text None = refl
word_no_minus text (Some k) = refl

blank_after : (m : Bool) (z : List ℕ) → after (place m) (32 ∷ z) ≡ after open_place z
blank_after true z = refl
blank_after false z = refl

module _ (signs : (s : Sign) → sign_of (sign_spelling s) ≡ Some s) where
  token_after : (k : TokenKind) (m : Bool) (text rest : List ℕ) (ps : List Piece) → IsToken k text → Quiet m (symbol_by k text ∷ symbols_of ps) →
      ((m : Bool) → Quiet m (symbols_of ps) → (z : List ℕ) → after (place m) (rest ++ 32 ∷ z) ≡ after open_place z) → (z : List ℕ) →
      after (place m) (text ++ (rest ++ 32 ∷ z)) ≡ after open_place z
  token_after kind.Word m text rest ps is h ih z =
      first_after is_letter is_word m text (rest ++ 32 ∷ z) is refl refl refl refl refl refl
      ∙ ih false (subst (λ (b : Bool). Quiet b (symbols_of ps)) (word_no_minus text (keyword_of text)) h.1) z
  token_after kind.Int m text rest ps is h ih z =
      first_after is_digit is_digit m text (rest ++ 32 ∷ z) is refl refl refl refl refl refl ∙ ih false h.1 z
  token_after kind.Text m text rest ps is h ih z =
      ap (λ (l : List ℕ). after (place m) (l ++ (rest ++ 32 ∷ z))) is.2 ∙ quoted_after m is.0 (rest ++ 32 ∷ z) ∙ ih false h.1 z
  token_after kind.Sign m text rest ps is h ih z =
      let found : sign_of text ≡ Some is.0 = ap sign_of is.1 ∙ signs is.0 in
      let known = subst (λ (o : Option Sign). Quiet m (sign_symbol o ∷ symbols_of ps)) found h in
      ap (λ (l : List ℕ). after (place m) (l ++ (rest ++ 32 ∷ z))) is.1 ∙ sign_after m is.0 (rest ++ 32 ∷ z) known.0
      ∙ ih (is_minus (sign is.0)) known.1 z

  pub lexed_after : {bs : List ℕ} {ps : List Piece} → Lexes bs ps → (m : Bool) → Quiet m (symbols_of ps) → (z : List ℕ) →
      after (place m) (bs ++ 32 ∷ z) ≡ after open_place z
  lexed_after ended m h z = blank_after m z
  lexed_after (blank {b = b} {bs = bs} is d) m h z =
      step (place m) open_place b (bs ++ 32 ∷ z) (next_by is_blank m b is refl refl refl)
      ∙ lexed_after d false (calmer _ m h) z
    where
      calmer : (r : List Symbol) (m : Bool) → Quiet m r → Quiet false r
      calmer [] m h = tt
      calmer (s ∷ ts) m h = (refl, h.1)
  lexed_after (token {rest = rest} {ps = ps} k text is ends d) m h z =
      ap (after (place m)) (append_assoc text rest (32 ∷ z)) ∙ token_after k m text rest ps is h (λ n q y. lexed_after d n q y) z
