-- What the symbols of a row of tokens hold.
use Rattle.salt_ast.proofs.Each.{Each}
use Rattle.salt_ast.proofs.Fragments.{IsNameWord, IsReadAs, text_spells}
use Rattle.salt_ast.specs.TokenLaws.{TokenLaws}
use Rattle.salt_ast.specs.Spelling.{Spells}
use Rattle.salt_ast.specs.Bytes.{is_printable}
use Rattle.salt_ast.specs.Pieces.{IsToken, Lexes, Piece, EachPasses, blank, ended, token}
use Rattle.salt_ast.specs.TokenSpelling.{keyword_of, sign_of}
use Rattle.salt_ast.specs.Symbols.{Symbol, Symbols, int, key, largest_int, name, symbols_of, sign, sign_symbol, symbol_by, text, word_symbol}
use Rattle.salt_ast.specs.declared.keyword.Keyword.{Keyword}
use Rattle.salt_ast.specs.declared.sign.Sign.{Sign}
use Rattle.salt_ast.specs.declared.token.TokenKind.{TokenKind}
use Rattle.salt_ast.specs.declared.token.TokenKind.TheVariants as kind
use Rattle.std.proofs.Common.{List, None, Option, Some, ap, arith, min, refl, subst, sym, ℕ, ◌<◌, ◌^◌, ◌∙◌, ◌≡◌}
use Rattle.std.specs.Str.Parse.{digits_value}

-- a token stands for the symbol
abbrev pub HasToken : Symbol → Type 0
HasToken (key k) = Unit {0}
HasToken (name n) = IsNameWord n
HasToken (int n) = n < 2 ^ 64
HasToken (text t) = EachPasses is_printable t
HasToken (sign s) = Unit {0}

-- each tree that tokens spell in one form, and that is low, is read from its canonical text in another form
abbrev pub AreReadAs : {A : Type 0} → (Form Item : Symbols → A → Type 0) → (A → List ℕ) → (A → Type 0) → Type 0
AreReadAs {A = A} Form Item shown Low = (ts : Symbols) (x : A) → Form ts x → Each HasToken ts → Low x → IsReadAs Item (shown x) x

word_has_token : (bs : List ℕ) → IsToken kind.Word bs → (found : Option Keyword) → keyword_of bs ≡ found → HasToken (word_symbol bs found)
word_has_token bs h None e = (h, e)
word_has_token bs h (Some k) e = tt

sign_has_token : (found : Option Sign) → HasToken (sign_symbol found)
sign_has_token None = tt
sign_has_token (Some s) = tt

capped : (n most limit : ℕ) → most < limit → min n most < limit
capped n most limit h = omega arith

module _ (laws : TokenLaws) where
  symbol_has_token : (k : TokenKind) (bs : List ℕ) → IsToken k bs → HasToken (symbol_by k bs)
  symbol_has_token kind.Word bs h = word_has_token bs h (keyword_of bs) refl
  symbol_has_token kind.Int bs h = capped (digits_value 10 bs) largest_int (2 ^ 64) (omega arith)
  symbol_has_token kind.Text bs h = subst HasToken (sym (ap (symbol_by kind.Text) h.2 ∙ laws.texts h.0)) h.1
  symbol_has_token kind.Sign bs h = sign_has_token (sign_of bs)

  pub row_has_tokens : {bs : List ℕ} {ps : List Piece} → Lexes bs ps → Each HasToken (symbols_of ps)
  row_has_tokens ended = tt
  row_has_tokens (blank h d) = row_has_tokens d
  row_has_tokens (token k bytes h e d) = (symbol_has_token k bytes h, row_has_tokens d)

  -- so a tree that some bytes spell is spelled by its canonical text too
  pub canonical_spells : {A : Type 0} {Form Item : Symbols → A → Type 0} {shown : A → List ℕ} {Low : A → Type 0} → AreReadAs Form Item shown Low →
      (bytes : List ℕ) (x : A) → Spells Form bytes x → Low x → Spells Item (shown x) x
  canonical_spells read bytes x spells low = text_spells (read (symbols_of spells.tokens) x spells.spelled (row_has_tokens spells.lexes) low)
