-- The bytes of tokens are bytes of a line.
use Rattle.salt_ast.specs.Spelling.{IsLineWithinLimits, SpellsLine}
use Rattle.salt_ast.specs.declared.lines.Line.{Line}
use Rattle.salt_model.specs.Lines.{is_line_byte}
use Rattle.salt_ast.specs.Bytes.{is_blank, is_digit, is_letter, is_printable, is_word}
use Rattle.salt_ast.specs.Pieces.{IsToken, Lexes, Piece, EachPasses, blank, doubled, ended as no_more, token}
use Rattle.salt_ast.specs.TokenSpelling.{sign_spelling}
use Rattle.salt_ast.specs.declared.sign.Sign.{Sign}
use Rattle.salt_ast.specs.declared.token.TokenKind.{TokenKind}
use Rattle.salt_ast.specs.declared.token.TokenKind.TheVariants as kind
use Rattle.std.proofs.Common.{Bool, List, [], arith, cond, eqb, false, refl, rules, true, ℕ, ◌++◌, ◌≡◌, ◌∙◌, ◌∷◌}
use Rattle.std.proofs.lemmas.Bool.Decides.{nat_tests}
use Rattle.std.proofs.lemmas.List.Folds.{list_all-append}
use Rattle.std.specs.List.{list_all}

blank_byte : (b : ℕ) → is_blank b ≡ true → is_line_byte b ≡ true
blank_byte b h = grind (arith, nat_tests)

letter_byte : (b : ℕ) → is_letter b ≡ true → is_line_byte b ≡ true
letter_byte b h = grind (arith, nat_tests)

digit_byte : (b : ℕ) → is_digit b ≡ true → is_line_byte b ≡ true
digit_byte b h = grind (arith, nat_tests)

word_byte : (b : ℕ) → is_word b ≡ true → is_line_byte b ≡ true
word_byte b h = grind (arith, nat_tests)

printable_byte : (b : ℕ) → is_printable b ≡ true → is_line_byte b ≡ true
printable_byte b h = grind (arith, nat_tests)

run_bytes : (p : ℕ → Bool) → ((b : ℕ) → p b ≡ true → is_line_byte b ≡ true) → (bs : List ℕ) → EachPasses p bs → list_all is_line_byte bs ≡ true
run_bytes p passes [] r = refl
run_bytes p passes (b ∷ bs) r = rw (passes b r.0) (run_bytes p passes bs r.1)

doubled_bytes : (content : List ℕ) → EachPasses is_printable content → list_all is_line_byte (doubled content) ≡ true
doubled_bytes [] r = refl
doubled_bytes (b ∷ bs) r = go (eqb b 39) (doubled_bytes bs r.1)
  where
    go : (t : Bool) → list_all is_line_byte (doubled bs) ≡ true → list_all is_line_byte (cond t (39 ∷ 39 ∷ doubled bs) (b ∷ doubled bs)) ≡ true
    go true ih = ih
    go false ih = rw (printable_byte b r.0) ih

sign_bytes : (s : Sign) → list_all is_line_byte (sign_spelling s) ≡ true
sign_bytes = search rules

token_bytes : (k : TokenKind) (text : List ℕ) → IsToken k text → list_all is_line_byte text ≡ true
token_bytes kind.Word [] h = absurd h
token_bytes kind.Word (b ∷ bs) h = rw (letter_byte b h.0) (run_bytes is_word word_byte bs h.1)
token_bytes kind.Int [] h = absurd h
token_bytes kind.Int (b ∷ bs) h = rw (digit_byte b h.0) (run_bytes is_digit digit_byte bs h.1)
token_bytes kind.Text text h =
    let inner : list_all is_line_byte (doubled h.0 ++ 39 ∷ []) ≡ true = list_all-append is_line_byte (doubled h.0) (39 ∷ []) ∙ rw (doubled_bytes h.0 h.1) refl in
    rw h.2 inner
token_bytes kind.Sign text h = rw h.1 (sign_bytes h.0)

lexes_bytes : {bs : List ℕ} {ps : List Piece} → Lexes bs ps → list_all is_line_byte bs ≡ true
lexes_bytes no_more = refl
lexes_bytes (blank {b = b} h d) = rw (blank_byte b h) (lexes_bytes d)
lexes_bytes (token {rest = rest} k text h e d) = list_all-append is_line_byte text rest ∙ rw (token_bytes k text h) (lexes_bytes d)

pub spelled_bytes : (text : List ℕ) (line : Line) → SpellsLine text line → list_all is_line_byte text ≡ true
spelled_bytes text line s = lexes_bytes s.lexes

pub bytes_within : (text : List ℕ) (line : Line) → IsLineWithinLimits text line → list_all is_line_byte text ≡ true
bytes_within text line s = lexes_bytes s.parentheses.lexes
