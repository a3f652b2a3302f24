-- The row of tokens of some bytes, taken from left to right.
use Rattle.std.specs.Prelude.{is_some, ◌≡◌, ℕ, zero, suc, ◌+◌, ◌-◌, Bool, true, false, List}
use Rattle.std.specs.Prelude.{[], ◌∷◌, take, Option, Some, None, Result, Ok, Err, ◌==◌, if◌then◌else◌}
use Rattle.std.specs.List.{prefix_len}
use Rattle.salt_ast.specs.Bytes.{is_blank, is_digit, is_letter, is_word, is_printable}
use Rattle.salt_ast.specs.TokenSpelling.{sign_of}
use Rattle.salt_ast.specs.Pieces.{Piece}
use Rattle.salt_ast.specs.declared.token.TokenKind.{TokenKind}
use Rattle.salt_ast.specs.declared.token.TokenKind.TheVariants.{Word, Int, Text, Sign}
use Rattle.salt_ast.specs.declared.token.Token.{Token}
use Rattle.salt_ast.specs.Spans.{pieces}
use Rattle.salt_ast.specs.declared.error.ScanErr.{ScanErr}
use Rattle.salt_ast.specs.declared.error.ScanErr.TheVariants.{Memory, Syntax}

-- what follows a value, where there is one
infixl 10 ◌>>=◌
abbrev pub ◌>>=◌ : {A B : Type 0} → Option A → (A → Option B) → Option B
None >>= f = None
(Some x) >>= f = f x

-- more by a number, where there is one
abbrev pub more : ℕ → Option ℕ → Option ℕ
more k o = o >>= λ n. Some (n + k)

-- how many bytes are left of a text; a quote that is not yet known to be doubled may stand just before
unfoldable pub quoted_at : Bool → List ℕ → Option ℕ
quoted_at false [] = None
quoted_at true [] = Some 0
quoted_at false (b ∷ bs) = if b == 39 then more 1 (quoted_at true bs) else if is_printable b then more 1 (quoted_at false bs) else None
quoted_at true (b ∷ bs) = if b == 39 then more 1 (quoted_at false bs) else Some 0

-- how many bytes are of the sign at the front
abbrev pub sign_at : List ℕ → Option ℕ
sign_at [] = None
sign_at (a ∷ []) = if is_some (sign_of (a ∷ [])) then Some 1 else None
sign_at (a ∷ b ∷ bs) = if is_some (sign_of (a ∷ b ∷ [])) then Some 2 else if is_some (sign_of (a ∷ [])) then Some 1 else None

-- the kind and the length of the token at the front
unfoldable pub first_at : List ℕ → Option (TokenKind × ℕ)
first_at [] = None
first_at (b ∷ bs) =
    if is_letter b then Some (Word, prefix_len is_word bs + 1)
    else if is_digit b then Some (Int, prefix_len is_digit bs + 1)
    else if b == 39 then (quoted_at false bs >>= λ n. Some (Text, n + 1))
    else (sign_at (b ∷ bs) >>= λ n. Some (Sign, n))

-- the tokens, where the first `skip` bytes are of a token that was taken.
unfoldable pub lex : ℕ → List ℕ → Option (List Piece)
lex skip [] = Some []
lex (suc skip) (b ∷ bs) = lex skip bs
lex zero (b ∷ bs) =
    if is_blank b then lex 0 bs
    else (first_at (b ∷ bs) >>= λ t. lex (t.1 - 1) bs >>= λ ps. Some (record { kind = t.0; text = take t.1 (b ∷ bs) } ∷ ps))

-- what a scan answers is this row, unless memory ran out.
abbrev pub Gives : List ℕ → Result (List Token) ScanErr → Option (List Piece) → Type 0
Gives bytes (Ok ts) read = read ≡ Some (pieces bytes ts)
Gives bytes (Err Memory) read = Unit {0}
Gives bytes (Err Syntax) read = read ≡ None
