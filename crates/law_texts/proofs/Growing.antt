-- A schema stays one that names its tables, as tables are defined.
use Rattle.salt_ast.specs.Judgement.{doubled_name, is_table}
use Rattle.salt_ast.specs.Limits.{name_passed, table_limit}
use Rattle.salt_ast.specs.Tables.{IsTable}
use Rattle.salt_ast.specs.Tables as table
use Rattle.salt_ast.specs.Words.{is_among}
use Rattle.salt_ast.specs.declared.trees.Expr.{Expr}
use Rattle.salt_ast.specs.declared.trees.TableDef.{TableDef}
use Rattle.salt_model.specs.Printable.{IsSpelledTable}
use Rattle.salt_model.specs.Words.{Every}
use Rattle.law_texts.proofs.Names.{no_sign, word_is}
use Rattle.law_texts.proofs.Numbering.{first_fresh}
use Rattle.salt_model.specs.Naming.{IsName, IsNaming, table_names}
use Rattle.salt_ast.specs.Pieces.{IsToken, Lexes, Piece, blank, ended, token}
use Rattle.salt_ast.specs.TokenSpelling.{keyword_of, same_bytes, sign_of}
use Rattle.std.specs.Option.{option_or}
use Rattle.salt_ast.specs.Symbols.{HasSymbols, Symbols, Symbol, key, name, symbols_of, symbol_by, word_symbol}
use Rattle.salt_ast.specs.declared.keyword.Keyword.TheVariants as word
use Rattle.salt_ast.specs.declared.token.TokenKind.TheVariants as kind
use Rattle.salt_ast.specs.declared.token.TokenKind.{TokenKind}
use Rattle.std.proofs.Common.{Bool, List, None, Option, Some, [], append-nil, cond, false, inl, inr, refl, subst, sym, true, true≢false, ℕ, ◌++◌, ◌∷◌}
use Rattle.std.proofs.Common.{◌≡◌, ◌⊎◌, ◌||◌}

-- ---- the name of a spelled table is a name

name_at : {I : Symbols → Expr → Type 0} (r : Symbols) (d : TableDef) → IsTable I r d →
    (rest : Symbols) × (r ≡ key word.Create ∷ key word.Table ∷ name d.name ∷ rest)
name_at _ _ (table.is_table f fs es) = (_, refl)

abbrev Stands : Symbol → Symbols → Type 0
Stands s [] = ⊥
Stands s (t ∷ ts) = (t ≡ s) ⊎ Stands s ts

word_row : (n : List ℕ) → IsToken kind.Word n → word_symbol n (keyword_of n) ≡ name n → HasSymbols n (name n ∷ [])
word_row n is e = (
  record { kind = kind.Word; text = n } ∷ [],
  subst (λ (bs : List ℕ). Lexes bs (record { kind = kind.Word; text = n } ∷ []))
      (append-nil n) (token kind.Word n is tt ended),
  (λ i. sym e i ∷ []),
)

by_kind : (k : TokenKind) (text n : List ℕ) → IsToken k text → symbol_by k text ≡ name n → HasSymbols n (name n ∷ [])
by_kind kind.Word text n is e =
    let same = word_is text n (keyword_of text) e in
    word_row n (subst (IsToken kind.Word) same is) (subst (λ (t : List ℕ). word_symbol t (keyword_of t) ≡ name n) same e)
by_kind kind.Int text n is e = absurd cc
by_kind kind.Text text n is e = absurd cc
by_kind kind.Sign text n is e = absurd (no_sign (sign_of text) n e)

named_token : {bs : List ℕ} {ps : List Piece} (n : List ℕ) → Lexes bs ps → Stands (name n) (symbols_of ps) → HasSymbols n (name n ∷ [])
named_token n ended h = absurd h
named_token n (blank h d) k = named_token n d k
named_token n (token k text is ends d) (inl e) = by_kind k text n is e
named_token n (token k text is ends d) (inr e) = named_token n d e

first_none : {A : Type 0} (a b : Option A) → option_or a b ≡ None → a ≡ None
first_none None b h = refl
first_none (Some x) b h = absurd cc

pub table_named : (d : TableDef) → IsSpelledTable d → IsName d.name
unfolding table_limit
table_named d h =
    let at = name_at (symbols_of h.spells.tokens) d h.spells.spelled in
    record {
      token = named_token d.name h.spells.lexes (subst (Stands (name d.name)) (sym at.1) (inr (inr (inl refl))));
      short = first_none (name_passed d.name) _ (first_none _ _ h.within);
    }

-- ---- one more table

more_names : (schema : List TableDef) (d : TableDef) → Every IsName (table_names schema) → IsName d.name →
    Every IsName (table_names (schema ++ d ∷ []))
more_names [] d g h = (h, tt)
more_names (e ∷ ds) d g h = (g.0, more_names ds d g.1 h)

test_parts : (t u : Bool) → cond t true u ≡ false → (t ≡ false) × (u ≡ false)
test_parts false u h = (refl, h)
test_parts true u h = absurd (true≢false h)

neither : (a b : Bool) → a ≡ false → b ≡ false → (a || b) ≡ false
neither a b g h = rw (g, h) refl

more_apart : (before : List (List ℕ)) (schema : List TableDef) (d : TableDef) → doubled_name before (table_names schema) ≡ None →
    is_among d.name before ≡ false → is_table schema d.name ≡ false → doubled_name before (table_names (schema ++ d ∷ [])) ≡ None
more_apart before [] d g h k = rw h refl
more_apart before (e ∷ ds) d g h k =
    let fresh = first_fresh e.name (is_among e.name before) (doubled_name (e.name ∷ before) (table_names ds)) g in
    let new = test_parts (same_bytes d.name e.name) (is_table ds d.name) k in
    rw fresh.0 (more_apart (e.name ∷ before) ds d fresh.1 (neither (same_bytes d.name e.name) (is_among d.name before) new.0 h) new.1)

pub naming_grows : (schema : List TableDef) (d : TableDef) → IsNaming schema → IsSpelledTable d → is_table schema d.name ≡ false →
    IsNaming (schema ++ d ∷ [])
naming_grows schema d g h k = record {
  names = more_names schema d g.names (table_named d h);
  apart = more_apart [] schema d g.apart refl k;
}
