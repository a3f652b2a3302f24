-- Which bytes are which row of tokens.
use Rattle.std.specs.Prelude.{◌≡◌, ℕ, Bool, true, false, List, [], ◌∷◌, ◌++◌, ◌==◌, is_some, if◌then◌else◌}
use Rattle.salt_ast.specs.Bytes.{is_blank, is_digit, is_letter, is_word, is_printable}
use Rattle.salt_ast.specs.TokenSpelling.{sign_spelling, sign_of}
use Rattle.salt_ast.specs.declared.sign.Sign as mark
use Rattle.salt_ast.specs.declared.token.TokenKind.{TokenKind}
use Rattle.salt_ast.specs.declared.token.TokenKind.TheVariants.{Word, Int, Text, Sign}

-- a token by its kind and its bytes
pub record Piece : Type 0 where
  pub kind : TokenKind
  pub text : List ℕ

-- each byte passes the test
abbrev pub EachPasses : (ℕ → Bool) → List ℕ → Type 0
EachPasses p [] = Unit {0}
EachPasses p (b ∷ bs) = (p b ≡ true) × EachPasses p bs

-- the next byte, if there is one, doesn't pass the test
abbrev pub NotNext : (ℕ → Bool) → List ℕ → Type 0
NotNext p [] = Unit {0}
NotNext p (b ∷ bs) = p b ≡ false

-- each quote twice
abbrev pub doubled : List ℕ → List ℕ
doubled [] = []
doubled (b ∷ bs) = if b == 39 then 39 ∷ 39 ∷ doubled bs else b ∷ doubled bs

-- a text as it is written
abbrev pub quoted : List ℕ → List ℕ
quoted content = 39 ∷ (doubled content ++ 39 ∷ [])

-- a first byte that passes one test, and bytes that pass another
abbrev pub First : (ℕ → Bool) → (ℕ → Bool) → List ℕ → Type 0
First p q [] = ⊥
First p q (b ∷ bs) = (p b ≡ true) × EachPasses q bs

-- the bytes are a token of this kind
abbrev pub IsToken : TokenKind → List ℕ → Type 0
IsToken Word text = First is_letter is_word text
IsToken Int text = First is_digit is_digit text
IsToken Text text = (content : List ℕ) × EachPasses is_printable content × (text ≡ quoted content)
IsToken Sign text = (s : mark.Sign) × (text ≡ sign_spelling s)

-- the token is the longest at its place: the next byte, if there is one, does not go on with it
abbrev pub EndsToken : TokenKind → List ℕ → List ℕ → Type 0
EndsToken Word text rest = NotNext is_word rest
EndsToken Int text rest = NotNext is_digit rest
EndsToken Text text rest = NotNext (λ b. b == 39) rest
EndsToken Sign text rest = NotNext (λ b. is_some (sign_of (text ++ b ∷ []))) rest

-- the bytes are this row of tokens, with blanks before and after each
pub data Lexes : List ℕ → List Piece → Type 0 where
  ended : Lexes [] []
  blank : {b : ℕ} {bs : List ℕ} {ps : List Piece} → is_blank b ≡ true → Lexes bs ps → Lexes (b ∷ bs) ps
  token : {rest : List ℕ} {ps : List Piece} (kind : TokenKind) (text : List ℕ)
      → IsToken kind text → EndsToken kind text rest → Lexes rest ps → Lexes (text ++ rest) (record { kind = kind; text = text } ∷ ps)
