-- Bytes that are read as the same symbols, whatever comes behind them.
use Rattle.salt_ast.specs.Spelling.{Spells}
use Rattle.salt_ast.specs.TokenLaws.{TokenLaws}
use Rattle.salt_ast.specs.Bytes.{is_digit, is_printable, is_word}
use Rattle.salt_ast.specs.Pieces.{EndsToken, IsToken, Lexes, NotNext, EachPasses, blank, ended, quoted, token}
use Rattle.salt_ast.specs.TokenSpelling.{keyword_of, keyword_spelling, sign_of, sign_spelling}
use Rattle.salt_ast.specs.Symbols.{HasSymbols, Symbols, Symbol, int, key, name, sign, sign_symbol, symbol_by, text, word_symbol}
use Rattle.salt_ast.specs.declared.keyword.Keyword.{Keyword}
use Rattle.salt_ast.specs.declared.sign.Sign.{Sign}
use Rattle.salt_ast.specs.declared.sign.Sign.TheVariants as mark
use Rattle.salt_ast.specs.declared.token.TokenKind.{TokenKind}
use Rattle.salt_ast.specs.declared.token.TokenKind.TheVariants as kind
use Rattle.std.proofs.Common.{List, None, [], ap, append_assoc, codes, false, is_some, refl, rules, subst, sym, ℕ, ◌++◌, ◌<◌, ◌^◌, ◌∙◌, ◌∷◌, ◌≡◌}
use Rattle.std.proofs.lemmas.List.{append-nil}
use Rattle.std.specs.Fmt.{decimal}
use Rattle.std.specs.Prelude.{◌==◌}

-- what ends a word, a number and a text
pub record Stops (rest : List ℕ) : Type 0 where
  pub words : NotNext is_word rest
  pub digits : NotNext is_digit rest
  pub quotes : NotNext (λ b. b == 39) rest

end_stops : Stops []
end_stops = record { words = tt; digits = tt; quotes = tt }

pub space_stops : (rest : List ℕ) → Stops (32 ∷ rest)
space_stops rest = record { words = refl; digits = refl; quotes = refl }

pub open_stops : (rest : List ℕ) → Stops (40 ∷ rest)
open_stops rest = record { words = refl; digits = refl; quotes = refl }

pub close_stops : (rest : List ℕ) → Stops (41 ∷ rest)
close_stops rest = record { words = refl; digits = refl; quotes = refl }

pub comma_stops : (rest : List ℕ) → Stops (44 ∷ rest)
comma_stops rest = record { words = refl; digits = refl; quotes = refl }

pub semicolon_stops : (rest : List ℕ) → Stops (59 ∷ rest)
semicolon_stops rest = record { words = refl; digits = refl; quotes = refl }

-- the bytes are these symbols, in front of each text for which `Next` holds
pub record IsFragment (Next : List ℕ → Type 0) (bytes : List ℕ) (symbols : Symbols) : Type 0 where
  pub reads : (rest : List ℕ) (r : Symbols) → Next rest → HasSymbols rest r → HasSymbols (bytes ++ rest) (symbols ++ r)

-- the bytes are read as the tree, wherever a word, a number or a text may end
pub record IsReadAs {Tree : Type 0} (IsTree : Symbols → Tree → Type 0) (bytes : List ℕ) (tree : Tree) : Type 0 where
  pub symbols : Symbols
  pub fragment : IsFragment Stops bytes symbols
  pub spelled : IsTree symbols tree

-- what is read as one tree is read as another that the same symbols spell
pub respelled : {Tree Other : Type 0} {IsTree : Symbols → Tree → Type 0} {IsOther : Symbols → Other → Type 0} {bytes : List ℕ} {tree : Tree} {other : Other} →
    ((ts : Symbols) → IsTree ts tree → IsOther ts other) → IsReadAs IsTree bytes tree → IsReadAs IsOther bytes other
respelled f x = record { symbols = x.symbols; fragment = x.fragment; spelled = f x.symbols x.spelled }

module _ {Next : List ℕ → Type 0} where
  pub nothing : IsFragment Next [] []
  nothing = record { reads = λ rest r next has. has }

  -- a fragment in front of no bytes
  whole : {bytes : List ℕ} {symbols : Symbols} → IsFragment Next (bytes ++ []) symbols → IsFragment Next bytes symbols
  whole {bytes} {symbols} f = subst (λ (x : List ℕ). IsFragment Next x symbols) (append-nil bytes) f

  pub regrouped : {bytes : List ℕ} {s t : Symbols} → s ≡ t → IsFragment Next bytes s → IsFragment Next bytes t
  regrouped {bytes} e f = subst (λ (x : Symbols). IsFragment Next bytes x) e f

  pub same_bytes_read : {a b : List ℕ} {symbols : Symbols} → a ≡ b → IsFragment Next a symbols → IsFragment Next b symbols
  same_bytes_read {symbols = symbols} e f = subst (λ (x : List ℕ). IsFragment Next x symbols) e f

  pub space_before : {b : List ℕ} {us : Symbols} → IsFragment Next b us → IsFragment Next (32 ∷ b) us
  space_before f = record { reads = λ rest r next has. let t = f.reads rest r next has in (t.0, blank refl t.1, t.2) }

  -- one fragment behind another
  pub behind : {First : List ℕ → Type 0} {a b : List ℕ} {ts us : Symbols} → IsFragment First a ts → ((rest : List ℕ) → Next rest → First (b ++ rest)) → IsFragment Next b us → IsFragment Next (a ++ b) (ts ++ us)
  behind {a = a} {b = b} {ts = ts} {us = us} f first g = record {
    reads = λ rest r next has. rw (append_assoc a b rest, append_assoc ts us r) (f.reads (b ++ rest) (us ++ r) (first rest next) (g.reads rest r next has));
  }

  pub behind_space : {a b : List ℕ} {ts us : Symbols} → IsFragment Stops a ts → IsFragment Next b us → IsFragment Next (a ++ 32 ∷ b) (ts ++ us)
  behind_space f g = behind f (λ rest next. space_stops _) (space_before g)

  token_before : (k : TokenKind) (bytes : List ℕ) (s : Symbol) {b : List ℕ} {us : Symbols} → IsToken k bytes → symbol_by k bytes ≡ s → ((rest : List ℕ) → Next rest → EndsToken k bytes (b ++ rest)) → IsFragment Next b us → IsFragment Next (bytes ++ b) (s ∷ us)
  token_before k bytes s {b = b} {us = us} h is ends f = record {
    reads = λ rest r next has.
        let t = f.reads rest r next has in (
          record { kind = k; text = bytes } ∷ t.0,
          rw (append_assoc bytes b rest) (token k bytes h (ends rest next) t.1),
          rw (← is) (ap (λ (x : Symbols). symbol_by k bytes ∷ x) t.2),
        );
  }

-- no byte goes on with the sign
abbrev IsLone : Sign → Type 0
IsLone s = (b : ℕ) → is_some (sign_of (sign_spelling s ++ b ∷ [])) ≡ false

lone_ends : (s : Sign) → IsLone s → (rest : List ℕ) → EndsToken kind.Sign (sign_spelling s) rest
lone_ends s lone [] = tt
lone_ends s lone (b ∷ rest) = lone b

-- nor does a space with any sign
space_ends : (s : Sign) → is_some (sign_of (sign_spelling s ++ 32 ∷ [])) ≡ false
unfolding sign_of
space_ends = search rules

module _ (laws : TokenLaws) {Next : List ℕ → Type 0} where
  pub word_before : (k : Keyword) {b : List ℕ} {us : Symbols} → ((rest : List ℕ) → Next rest → NotNext is_word (b ++ rest)) → IsFragment Next b us → IsFragment Next (keyword_spelling k ++ b) (key k ∷ us)
  word_before k ends f = token_before kind.Word (keyword_spelling k) (key k) (laws.words k) (ap (word_symbol (keyword_spelling k)) (laws.keywords k)) ends f

  pub spaced_word : (k : Keyword) {b : List ℕ} {us : Symbols} → IsFragment Next b us → IsFragment Next (keyword_spelling k ++ 32 ∷ b) (key k ∷ us)
  spaced_word k f = word_before k (λ rest next. refl) (space_before f)

  sign_before : (s : Sign) {b : List ℕ} {us : Symbols} → ((rest : List ℕ) → Next rest → EndsToken kind.Sign (sign_spelling s) (b ++ rest)) → IsFragment Next b us → IsFragment Next (sign_spelling s ++ b) (sign s ∷ us)
  sign_before s ends f = token_before kind.Sign (sign_spelling s) (sign s) (s, refl) (ap sign_symbol (laws.signs s)) ends f

  pub spaced_sign : (s : Sign) {b : List ℕ} {us : Symbols} → IsFragment Next b us → IsFragment Next (sign_spelling s ++ 32 ∷ b) (sign s ∷ us)
  spaced_sign s f = sign_before s (λ rest next. space_ends s) (space_before f)

  lone_before : (s : Sign) → IsLone s → {b : List ℕ} {us : Symbols} → IsFragment Next b us → IsFragment Next (sign_spelling s ++ b) (sign s ∷ us)
  lone_before s lone {b = b} f = sign_before s (λ rest next. lone_ends s lone (b ++ rest)) f

  pub open_before : {b : List ℕ} {us : Symbols} → IsFragment Next b us → IsFragment Next (codes "(" ++ b) (sign mark.Open ∷ us)
  unfolding sign_of
  open_before f = lone_before mark.Open (λ b. refl) f

  pub close_before : {b : List ℕ} {us : Symbols} → IsFragment Next b us → IsFragment Next (codes ")" ++ b) (sign mark.Close ∷ us)
  unfolding sign_of
  close_before f = lone_before mark.Close (λ b. refl) f

  pub close_brace_before : {b : List ℕ} {us : Symbols} → IsFragment Next b us → IsFragment Next (codes "}" ++ b) (sign mark.CloseBrace ∷ us)
  unfolding sign_of
  close_brace_before f = lone_before mark.CloseBrace (λ b. refl) f

  pub colon_before : {b : List ℕ} {us : Symbols} → IsFragment Next b us → IsFragment Next (codes ":" ++ b) (sign mark.Colon ∷ us)
  unfolding sign_of
  colon_before f = lone_before mark.Colon (λ b. refl) f

  pub minus_before : {b : List ℕ} {us : Symbols} → IsFragment Next b us → IsFragment Next (codes "-" ++ b) (sign mark.Minus ∷ us)
  unfolding sign_of
  minus_before f = lone_before mark.Minus (λ b. refl) f

  pub star_before : {b : List ℕ} {us : Symbols} → IsFragment Next b us → IsFragment Next (codes "*" ++ b) (sign mark.Star ∷ us)
  unfolding sign_of
  star_before f = lone_before mark.Star (λ b. refl) f

-- a closing parenthesis behind a fragment
pub closed : TokenLaws → {a : List ℕ} {ts : Symbols} → IsFragment Stops a ts → IsFragment Stops (a ++ codes ")") (ts ++ sign mark.Close ∷ [])
closed laws f = behind f (λ rest next. close_stops rest) (close_before laws nothing)

-- ---- words, names, texts and numbers

-- bytes that are a word, and no keyword
abbrev pub IsNameWord : List ℕ → Type 0
IsNameWord n = IsToken kind.Word n × (keyword_of n ≡ None)

pub name_fragment : (n : List ℕ) → IsNameWord n → IsFragment Stops n (name n ∷ [])
name_fragment n h = whole (token_before kind.Word n (name n) h.0 (ap (word_symbol n) h.1) (λ rest next. next.words) nothing)

pub spaced_name : (n : List ℕ) → IsNameWord n → {Next : List ℕ → Type 0} {b : List ℕ} {us : Symbols} → IsFragment Next b us → IsFragment Next (n ++ 32 ∷ b) (name n ∷ us)
spaced_name n h f = behind_space (name_fragment n h) f

module _ (laws : TokenLaws) where
  pub word_fragment : (k : Keyword) → IsFragment Stops (keyword_spelling k) (key k ∷ [])
  word_fragment k = whole (word_before laws k (λ rest next. next.words) nothing)

  pub text_fragment : (t : List ℕ) → EachPasses is_printable t → IsFragment Stops (quoted t) (text t ∷ [])
  text_fragment t h = whole (token_before kind.Text (quoted t) (text t) (t, h, refl) (laws.texts t) (λ rest next. next.quotes) nothing)

  pub number_fragment : (n : ℕ) → n < 2 ^ 64 → IsFragment Stops (decimal n) (int n ∷ [])
  number_fragment n h = whole (token_before kind.Int (decimal n) (int n) (laws.numbers n h) (laws.values n h) (λ rest next. next.digits) nothing)

  -- a word in front of what is read
  pub word_first : (k : Keyword) {Tree Other : Type 0} {IsTree : Symbols → Tree → Type 0} {IsOther : Symbols → Other → Type 0} {bytes : List ℕ} {tree : Tree} {other : Other} →
      ((ts : Symbols) → IsTree ts tree → IsOther (key k ∷ ts) other) → IsReadAs IsTree bytes tree → IsReadAs IsOther (keyword_spelling k ++ 32 ∷ bytes) other
  word_first k f x = record { symbols = key k ∷ x.symbols; fragment = spaced_word laws k x.fragment; spelled = f x.symbols x.spelled }

pub space_first : {Tree : Type 0} {IsTree : Symbols → Tree → Type 0} {bytes : List ℕ} {tree : Tree} → IsReadAs IsTree bytes tree → IsReadAs IsTree (32 ∷ bytes) tree
space_first x = record { symbols = x.symbols; fragment = space_before x.fragment; spelled = x.spelled }

-- ---- a whole text

pub text_spells : {Tree : Type 0} {IsTree : Symbols → Tree → Type 0} {bytes : List ℕ} {tree : Tree} → IsReadAs IsTree bytes tree → Spells IsTree bytes tree
text_spells {IsTree = IsTree} {bytes = bytes} {tree = tree} x =
    let row = x.fragment.reads [] [] end_stops ([], ended, refl) in
    record {
      tokens = row.0;
      lexes = subst (λ (bs : List ℕ). Lexes bs row.0) (append-nil bytes) row.1;
      spelled = subst (λ (r : Symbols). IsTree r tree) (sym (append-nil x.symbols) ∙ row.2) x.spelled;
    }
