-- The tokens of bytes, and what they stand for.
use Rattle.salt_ast.specs.Pieces.{Piece}
use Rattle.salt_ast.specs.Scanning.{first_at, lex, quoted_at}
use Rattle.salt_ast.specs.TokenSpelling.{keyword_of, keyword_spelling, sign_of, sign_spelling}
use Rattle.salt_ast.specs.Symbols.{Symbols, int, key, largest_int, name, sign, symbols_of, text}
use Rattle.salt_ast.specs.declared.keyword.Keyword.TheVariants.{Count, Retry, Rollback, Select}
use Rattle.salt_ast.specs.declared.sign.Sign.TheVariants.{AtMost, Bars, Close, Open, Star, Unequal}
use Rattle.salt_ast.specs.declared.token.TokenKind.TheVariants as kind
use Rattle.std.specs.Prelude.{List, None, Option, Some, [], codes, map, option_map, refl, ℕ, ◌++◌, ◌∷◌, ◌≡◌}

-- ---- bytes, and their tokens: each is the longest that begins there

abbrev cut : List ℕ → Option (List (List ℕ))
cut bytes = option_map (λ ps. map (λ (p : Piece). p.text) ps) (lex 0 bytes)

record Row : Type 0 where
  pub bytes : List ℕ
  pub tokens : List (List ℕ)

abbrev are : List ℕ → List (List ℕ) → Row
are bytes tokens = record { bytes = bytes; tokens = tokens }

abbrev rows : List Row
rows =
    are [] []
    ∷ are (32 ∷ 9 ∷ 32 ∷ []) []
    ∷ are (codes "1and") (codes "1" ∷ codes "and" ∷ [])
    ∷ are (codes "@1begin") (codes "@" ∷ codes "1" ∷ codes "begin" ∷ [])
    ∷ are (codes "a_1 _b") (codes "a_1" ∷ codes "_b" ∷ [])
    ∷ are (codes "<=><>=") (codes "<=" ∷ codes ">" ∷ codes "<>" ∷ codes "=" ∷ [])
    ∷ are (codes ">>=||=") (codes ">" ∷ codes ">=" ∷ codes "||" ∷ codes "=" ∷ [])
    ∷ are (codes "'a''b'c") (codes "'a''b'" ∷ codes "c" ∷ [])
    ∷ are (codes "@1 ensure '$'") (codes "@" ∷ codes "1" ∷ codes "ensure" ∷ codes "'$'" ∷ [])
    ∷ are (codes "'''' ''") (codes "''''" ∷ codes "''" ∷ [])
    ∷ are (codes "{x;:y}" ++ 9 ∷ codes "(1.2,*+-3)")
    (codes "{" ∷ codes "x" ∷ codes ";" ∷ codes ":" ∷ codes "y" ∷ codes "}" ∷ codes "(" ∷ codes "1" ∷ codes "." ∷ codes "2" ∷ codes "," ∷ codes "*"
    ∷ codes "+" ∷ codes "-" ∷ codes "3" ∷ codes ")" ∷ [])
    ∷ []

tokens_are_longest : map (λ r. cut r.bytes) rows ≡ map (λ r. Some r.tokens) rows
unfolding first_at lex quoted_at sign_of
tokens_are_longest = refl

-- ---- bytes that are no tokens

abbrev others : List (List ℕ)
others =
    codes "|" ∷ codes "no line$" ∷ codes "a # b" ∷ codes "'a" ∷ codes "'a''" ∷ (39 ∷ 127 ∷ 39 ∷ []) ∷ (39 ∷ 9 ∷ 39 ∷ []) ∷ codes "\"a\"" ∷ (97 ∷ 13 ∷ []) ∷ (195 ∷ 169 ∷ []) ∷ []

no_tokens : map cut others ≡ None ∷ None ∷ None ∷ None ∷ None ∷ None ∷ None ∷ None ∷ None ∷ None ∷ []
unfolding first_at lex quoted_at sign_of
no_tokens = refl

-- ---- the kinds of tokens

kinds : option_map (λ ps. map (λ (p : Piece). p.kind) ps) (lex 0 (codes "a<=12 'b''c'")) ≡ Some (kind.Word ∷ kind.Sign ∷ kind.Int ∷ kind.Text ∷ [])
unfolding first_at lex quoted_at sign_of
kinds = refl

-- ---- what tokens stand for

abbrev meaning : List ℕ → Option Symbols
meaning bytes = option_map symbols_of (lex 0 bytes)

tokens_stand_for :
    meaning (codes "SELECT Count(*) <= 007 'it''s' Select_ 18446744073709551616")
    ≡ Some (key Select ∷ key Count ∷ sign Open ∷ sign Star ∷ sign Close ∷ sign AtMost ∷ int 7 ∷ text (codes "it's") ∷ name (codes "Select_") ∷ int largest_int ∷ [])
unfolding first_at keyword_of lex quoted_at sign_of
tokens_stand_for = refl

-- ---- spellings

keywords : map keyword_of (codes "RoLLbaCK" ∷ codes "rollbac" ∷ codes "rollbacks" ∷ []) ≡ Some Rollback ∷ None ∷ None ∷ []
unfolding keyword_of
keywords = refl

signs : map sign_of (codes "||" ∷ codes "|" ∷ []) ≡ Some Bars ∷ None ∷ []
unfolding sign_of
signs = refl

keyword_spelled : keyword_spelling Retry ≡ codes "retry"
keyword_spelled = refl

sign_spelled : sign_spelling Unequal ≡ codes "<>"
sign_spelled = refl
