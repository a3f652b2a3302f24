-- How tokens are written.
use Rattle.salt_ast.specs.Pieces.{IsToken, quoted}
use Rattle.salt_ast.specs.TokenSpelling.{keyword_of, keyword_spelling, sign_of, sign_spelling}
use Rattle.salt_ast.specs.Symbols.{int, symbol_by, text}
use Rattle.salt_ast.specs.declared.keyword.Keyword.{Keyword}
use Rattle.salt_ast.specs.declared.sign.Sign.{Sign}
use Rattle.salt_ast.specs.declared.token.TokenKind.TheVariants as kind
use Rattle.std.specs.Fmt.{decimal}
use Rattle.std.specs.Prelude.{List, Some, ℕ, ◌<◌, ◌^◌, ◌≡◌}

-- what the tokens' crate says of how keywords, signs, texts and numbers are written
pub record TokenLaws : Type 0 where
  pub words : (k : Keyword) → IsToken kind.Word (keyword_spelling k)
  pub keywords : (k : Keyword) → keyword_of (keyword_spelling k) ≡ Some k
  pub signs : (s : Sign) → sign_of (sign_spelling s) ≡ Some s
  pub texts : (content : List ℕ) → symbol_by kind.Text (quoted content) ≡ text content
  pub numbers : (n : ℕ) → n < 2 ^ 64 → IsToken kind.Int (decimal n)
  pub values : (n : ℕ) → n < 2 ^ 64 → symbol_by kind.Int (decimal n) ≡ int n
