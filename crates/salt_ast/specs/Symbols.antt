-- What tokens stand for.
use Rattle.std.specs.Prelude.{◌≡◌, ℕ, ◌-◌, ◌^◌, List, [], ◌∷◌, ◌==◌, length, take, drop, map, min, Option, Some, None, if◌then◌else◌}
use Rattle.std.specs.Str.Parse.{digits_value}
use Rattle.salt_ast.specs.declared.keyword.Keyword.{Keyword}
use Rattle.salt_ast.specs.declared.sign.Sign.{Sign}
use Rattle.salt_ast.specs.declared.sign.Sign.TheVariants as mark
use Rattle.salt_ast.specs.declared.token.TokenKind.{TokenKind}
use Rattle.salt_ast.specs.declared.token.TokenKind.TheVariants as kind
use Rattle.salt_ast.specs.declared.lexeme.Lexeme.{Lexeme}
use Rattle.salt_ast.specs.declared.lexeme.Lexeme.TheVariants as lexeme
use Rattle.salt_ast.specs.Pieces.{Piece, Lexes}
use Rattle.salt_ast.specs.TokenSpelling.{keyword_of, sign_of}

-- what a token stands for, wherever its bytes lie
pub data Symbol : Type 0 where
  key : Keyword → Symbol
  name : List ℕ → Symbol
  int : ℕ → Symbol
  text : List ℕ → Symbol
  sign : Sign → Symbol

-- symbols, in the order of the text
abbrev pub Symbols : Type 0
Symbols = List Symbol

-- the largest number of 64 bits, which a larger one is taken as: a text that holds either passes each limit on numbers
abbrev pub largest_int : ℕ
largest_int = 2 ^ 64 - 1

-- each double quote once
abbrev pub undoubled : List ℕ → List ℕ
undoubled [] = []
undoubled (b ∷ []) = b ∷ []
undoubled (b ∷ c ∷ cs) = if b == 39 then b ∷ undoubled cs else b ∷ undoubled (c ∷ cs)

-- what stands between the first byte and the last
abbrev pub between : List ℕ → List ℕ
between bs = take (length bs - 2) (drop 1 bs)

-- a keyword, or else a name with its letters as they are
abbrev pub word_symbol : List ℕ → Option Keyword → Symbol
word_symbol bs None = name bs
word_symbol bs (Some k) = key k

-- where the bytes are no sign, which no token's are, any sign
abbrev pub sign_symbol : Option Sign → Symbol
sign_symbol None = sign mark.Dot
sign_symbol (Some s) = sign s

-- what the bytes of a token of this kind stand for
abbrev pub symbol_by : TokenKind → List ℕ → Symbol
symbol_by kind.Word bs = word_symbol bs (keyword_of bs)
symbol_by kind.Int bs = int (min (digits_value 10 bs) largest_int)
symbol_by kind.Text bs = text (undoubled (between bs))
symbol_by kind.Sign bs = sign_symbol (sign_of bs)

-- the row that tokens stand for
abbrev pub symbols_of : List Piece → Symbols
symbols_of ps = map (λ p. symbol_by p.kind p.text) ps

-- the bytes are tokens that stand for this row
abbrev pub HasSymbols : List ℕ → Symbols → Type 0
HasSymbols bytes r = (ps : List Piece) × Lexes bytes ps × (r ≡ symbols_of ps)

-- what the program's form of a token stands for
abbrev pub symbol : Lexeme → Symbol
symbol (lexeme.Key k) = key k
symbol (lexeme.Name n) = name n.now
symbol (lexeme.Int n) = int n
symbol (lexeme.Text t) = text (undoubled t.now)
symbol (lexeme.Sign s) = sign s

-- the row that the program's tokens stand for
abbrev pub symbols_in : List Lexeme → Symbols
symbols_in ts = map symbol ts
