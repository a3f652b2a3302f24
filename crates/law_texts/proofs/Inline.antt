-- Texts with no end of a line in them.
use Rattle.salt_ast.specs.ProgramTexts.{base_text}
use Rattle.salt_ast.specs.Texts.{preceded, statement_text}
use Rattle.salt_ast.specs.declared.trees.Statement.{Statement}
use Rattle.salt_model.specs.Naming.{IsName}
use Rattle.salt_model.specs.Printable.{IsDefinition, IsSpelled}
use Rattle.salt_model.specs.Words.{Every}
use Rattle.law_texts.specs.Below.{LawsBelow}
use Rattle.law_texts.specs.EventLines.{Inline, is_inline}
use Rattle.law_texts.proofs.Arrows.{other}
use Rattle.law_texts.proofs.Clear.{run_one}
use Rattle.law_texts.proofs.Numbers.{decimal_digits}
use Rattle.law_texts.proofs.Statements.{shallow}
use Rattle.salt_ast.specs.Bytes.{is_blank, is_digit, is_letter, is_printable, is_word}
use Rattle.salt_ast.specs.Pieces.{First, IsToken, Lexes, Piece, EachPasses, blank, doubled, ended, token}
use Rattle.salt_ast.specs.TokenSpelling.{sign_spelling}
use Rattle.salt_ast.specs.declared.sign.Sign.TheVariants as mark
use Rattle.salt_ast.specs.declared.sign.Sign.{Sign}
use Rattle.salt_ast.specs.declared.token.TokenKind.TheVariants as token_kind
use Rattle.salt_ast.specs.declared.token.TokenKind.{TokenKind}
use Rattle.salt_values.specs.declared.id.Id.{Id}
use Rattle.std.proofs.Common.{Bool, List, [], ap, cond, decimal, eqb, false, inl, inr, not, refl, subst, sym, true, ℕ}
use Rattle.std.proofs.Common.{◌&&◌, ◌++◌, ◌∷◌, ◌≡◌}

-- a line's bytes up to its end
pub line_one : (a b x y : List ℕ) → Inline a → Inline b → a ++ (10 ∷ x) ≡ b ++ (10 ∷ y) → (a ≡ b) × (x ≡ y)
line_one a b x y g h e = let r = run_one is_inline a b (10 ∷ x) (10 ∷ y) g h refl refl e in let rest : x ≡ y = cc (r.1) in (r.0, rest)

-- ---- runs

pub run_append : (p : ℕ → Bool) (xs ys : List ℕ) → EachPasses p xs → EachPasses p ys → EachPasses p (xs ++ ys)
run_append p [] ys g h = h
run_append p (x ∷ xs) ys g h = (g.0, run_append p xs ys g.1 h)

pub run_inline : (p : ℕ → Bool) (xs : List ℕ) → p 10 ≡ false → EachPasses p xs → Inline xs
run_inline p [] no_end h = tt
run_inline p (x ∷ xs) no_end h = (ap not (other p x 10 h.0 no_end), run_inline p xs no_end h.1)

first_inline : (p q : ℕ → Bool) (xs : List ℕ) → p 10 ≡ false → q 10 ≡ false → First p q xs → Inline xs
first_inline p q [] n m h = absurd h
first_inline p q (x ∷ xs) n m h = (ap not (other p x 10 h.0 n), run_inline q xs m h.1)

abbrev pub all_inline : List ℕ → Bool
all_inline [] = true
all_inline (x ∷ xs) = is_inline x && all_inline xs

test_parts : (a b : Bool) → (a && b) ≡ true → (a ≡ true) × (b ≡ true)
test_parts true true h = (refl, refl)
test_parts true false h = absurd cc
test_parts false b h = absurd cc

pub known : (xs : List ℕ) → all_inline xs ≡ true → Inline xs
known [] h = tt
known (x ∷ xs) h = let r = test_parts (is_inline x) (all_inline xs) h in (r.0, known xs r.1)

-- known bytes before others
pub lead : (c xs : List ℕ) → all_inline c ≡ true → Inline xs → Inline (c ++ xs)
lead c xs h k = run_append is_inline c xs (known c h) k

-- ---- tokens

pub doubled_inline : (content : List ℕ) → EachPasses is_printable content → Inline (doubled content)
doubled_inline [] h = tt
doubled_inline (b ∷ bs) h = go (eqb b 39) (ap not (other is_printable b 10 h.0 refl)) (doubled_inline bs h.1)
  where
    go : (t : Bool) → is_inline b ≡ true → Inline (doubled bs) → Inline (cond t (39 ∷ 39 ∷ doubled bs) (b ∷ doubled bs))
    go true e ih = (refl, (refl, ih))
    go false e ih = (e, ih)

sign_inline : (s : Sign) → all_inline (sign_spelling s) ≡ true
sign_inline mark.Open = refl
sign_inline s = refl

token_inline : (k : TokenKind) (text : List ℕ) → IsToken k text → Inline text
token_inline token_kind.Word text h = first_inline is_letter is_word text refl refl h
token_inline token_kind.Int text h = first_inline is_digit is_digit text refl refl h
token_inline token_kind.Text text h = subst Inline (sym h.2) (refl, run_append is_inline (doubled h.0) (39 ∷ []) (doubled_inline h.0 h.1) (refl, tt))
token_inline token_kind.Sign text h = subst Inline (sym h.1) (known (sign_spelling h.0) (sign_inline h.0))

pub lexed_inline : {bs : List ℕ} {ps : List Piece} → Lexes bs ps → Inline bs
lexed_inline ended = tt
lexed_inline (blank {b = b} h d) = (ap not (other is_blank b 10 h refl), lexed_inline d)
lexed_inline (token {rest = rest} k text is ends d) = run_append is_inline text rest (token_inline k text is) (lexed_inline d)

pub name_inline : (n : List ℕ) → IsName n → Inline n
name_inline n h = lexed_inline h.token.1

pub decimal_inline : (n : ℕ) → Inline (decimal n)
decimal_inline n = run_inline is_digit (decimal n) refl (decimal_digits n)

pub base_inline : (b : Id) → Inline (base_text b)
base_inline b = (refl, run_append is_inline (decimal b.boot) (46 ∷ decimal b.seq) (decimal_inline b.boot) (refl, decimal_inline b.seq))

-- ---- lists

module _ {A : Type 0} (P : A → Type 0) (text : A → List ℕ) (each : (x : A) → P x → Inline (text x)) where
  pub preceded_inline : (before : List ℕ) (xs : List A) → all_inline before ≡ true → Every P xs → Inline (preceded before text xs)
  preceded_inline before [] h k = tt
  preceded_inline before (x ∷ xs) h k =
      lead before _ h (run_append is_inline (text x) (preceded before text xs) (each x k.0) (preceded_inline before xs h k.1))

-- ---- statements and definitions

module _ (laws : LawsBelow) where
  pub statement_inline : (st : Statement) → IsSpelled st → Inline (statement_text st)
  statement_inline st h = lexed_inline (shallow laws st h).lexes

  pub definition_inline : (text : List ℕ) → IsDefinition text → Inline text
  definition_inline text (inl h) = subst Inline (sym h.2) (lexed_inline (laws.table h.1.text h.0 h.1.spells h.1.within).lexes)
  definition_inline text (inr h) = subst Inline (sym h.2) (lexed_inline (laws.program h.1.text h.0 h.1.spells h.1.within).lexes)
