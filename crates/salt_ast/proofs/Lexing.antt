-- What tokens stand for, one after the other, as a loop takes them.
use Rattle.std.proofs.Common.{◌≡◌, ℕ, ◌+◌, ◌<◌, ◌≤◌, true, false, List, [], ◌∷◌, ◌++◌, length, get_or, take, drop, Some, None, sym, ap, ◌∙◌, arith, length-append}
use Rattle.std.proofs.lemmas.List.{map_push}
use Rattle.salt_ast.specs.declared.lexeme.Lexeme.{Lexeme}
use Rattle.salt_ast.specs.declared.token.TokenKind.{TokenKind}
use Rattle.salt_ast.specs.Bytes.{is_blank}
use Rattle.salt_ast.specs.Pieces.{Piece}
use Rattle.salt_ast.specs.Scanning.{first_at, lex}
use Rattle.salt_ast.specs.Symbols.{HasSymbols, Symbol, Symbols, symbol, symbol_by, symbols_in, symbols_of}
use Rattle.salt_ast.proofs.Steps.{with_front, lex_start, blank_goes_on, token_goes_on, token_fails, lex_ends}
use Rattle.salt_ast.proofs.TokenLaws.{lex_sound, no_row}

-- The bytes before this place are tokens that stand for these lexemes.
pub record IsLexed (bytes : List ℕ) (at : ℕ) (lexemes : List Lexeme) : Type 0 where
  pub read : List Piece
  pub so_far : with_front read (lex 0 (drop at bytes)) ≡ lex 0 bytes
  pub symbols : symbols_in lexemes ≡ symbols_of read
  pub few : length lexemes ≤ at

pub lexed_none : (bytes : List ℕ) (lexemes : List Lexeme) → lexemes ≡ [] → IsLexed bytes 0 lexemes
lexed_none bytes lexemes none = record {
  read = [];
  so_far = lex_start bytes;
  symbols = ap symbols_in none;
  few = omega (arith, ap length none);
}

pub lexed_blank : (bytes : List ℕ) (at : ℕ) (lexemes : List Lexeme) → IsLexed bytes at lexemes → at < length bytes → is_blank (get_or bytes at 0) ≡ true → IsLexed bytes (at + 1) lexemes
lexed_blank bytes at lexemes l some is = record {
  read = l.read;
  so_far = blank_goes_on bytes at l.read some l.so_far is;
  symbols = l.symbols;
  few = omega (arith, l.few);
}

pub lexed_token : (bytes : List ℕ) (at : ℕ) (lexemes : List Lexeme) (next : Lexeme) (kind : TokenKind) (len : ℕ) → IsLexed bytes at lexemes → at < length bytes
    → is_blank (get_or bytes at 0) ≡ false → first_at (drop at bytes) ≡ Some (kind, len) → 0 < len → len ≤ length (drop at bytes)
    → symbol next ≡ symbol_by kind (take len (drop at bytes)) → IsLexed bytes (at + len) (lexemes ++ next ∷ [])
lexed_token bytes at lexemes next kind len l some is first pos within stands =
    let piece : Piece = record { kind = kind; text = take len (drop at bytes) } in
    record {
      read = l.read ++ piece ∷ [];
      so_far = token_goes_on bytes at l.read some l.so_far kind len is first pos within;
      symbols = map_push symbol lexemes next ∙ ap (λ (row : Symbols). row ++ symbol next ∷ []) l.symbols
          ∙ ap (λ (s : Symbol). symbols_of l.read ++ s ∷ []) stands ∙ sym (map_push (λ p. symbol_by p.kind p.text) l.read piece);
      few = omega (arith, l.few, length-append lexemes (next ∷ []));
    }

pub lexed_ends : (bytes : List ℕ) (at : ℕ) (lexemes : List Lexeme) → IsLexed bytes at lexemes → length bytes ≤ at → HasSymbols bytes (symbols_in lexemes)
lexed_ends bytes at lexemes l end = (l.read, lex_sound 0 bytes l.read (omega arith) (lex_ends bytes at l.read end l.so_far), l.symbols)

pub lexed_fails : (bytes : List ℕ) (at : ℕ) (lexemes : List Lexeme) → IsLexed bytes at lexemes → at < length bytes → is_blank (get_or bytes at 0) ≡ false → first_at (drop at bytes) ≡ None
    → (r : Symbols) → ¬ (HasSymbols bytes r)
lexed_fails bytes at lexemes l some is none r has = no_row bytes has.0 (token_fails bytes at l.read some l.so_far is none) has.1
