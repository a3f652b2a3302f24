-- Canonical texts of tables are read as their trees.
use Rattle.salt_ast.proofs.CanonicalExprs.{AreRead, within_read}
use Rattle.salt_ast.proofs.CanonicalLists.{following_read, following_stops}
use Rattle.salt_ast.proofs.Each.{Anything, Each, each_is_anything, each_of_append}
use Rattle.salt_ast.proofs.Fragments.{IsReadAs, Stops, behind, behind_space, close_stops, closed, comma_stops, open_before, regrouped, respelled, spaced_name, spaced_word, word_before, word_first, word_fragment}
use Rattle.salt_ast.proofs.LowExprs.{IsLow, Shallow, all_low, low_expression, other_is_none}
use Rattle.salt_ast.proofs.TokenRows.{AreReadAs, HasToken, canonical_spells}
use Rattle.salt_ast.specs.TokenLaws.{TokenLaws}
use Rattle.salt_ast.specs.Grammar.{Spells}
use Rattle.salt_ast.specs.Limits.{height_passed, table_limit, table_passed}
use Rattle.salt_ast.specs.Spelling.{SpellsShallowTable, SpellsTable}
use Rattle.salt_ast.specs.Statements.{Following}
use Rattle.salt_ast.specs.Tables.{IsCheck, IsColumn, IsField, IsTable, int_field, is_check, is_nullable, is_plain, is_table, text_field}
use Rattle.salt_ast.specs.Texts.{expr_text, field_text, preceded, table_text}
use Rattle.salt_ast.specs.declared.trees.Expr.{Expr}
use Rattle.salt_ast.specs.declared.trees.TableDef.{TableDef}
use Rattle.salt_ast.specs.Symbols.{Symbols, key, name, sign}
use Rattle.salt_ast.specs.declared.keyword.Keyword.TheVariants as word
use Rattle.salt_ast.specs.declared.sign.Sign.TheVariants as mark
use Rattle.std.proofs.Common.{List, None, [], ap, append_assoc, codes, refl, subst, ℕ, ◌++◌, ◌∷◌, ◌≡◌}

-- ---- checks

check_text : Expr → List ℕ
check_text e = codes "check " ++ expr_text e

checks_text : (es : List Expr) → preceded (codes ", ") check_text es ≡ preceded (codes ", check ") expr_text es
unfolding check_text
checks_text [] = refl
checks_text (e ∷ es) = ap (λ (rest : List ℕ). codes ", check " ++ (expr_text e ++ rest)) (checks_text es)

checks_stops : (es : List Expr) (rest : List ℕ) → Stops ((preceded (codes ", check ") expr_text es ++ codes ")") ++ rest)
checks_stops [] rest = close_stops rest
checks_stops (e ∷ es) rest = comma_stops _

module _ (laws : TokenLaws) where
  pub field_read : AreReadAs IsField IsField field_text Anything
  field_read _ _ (int_field {n}) (named, _) _ = record {
    symbols = name n ∷ key word.Int ∷ [];
    fragment = spaced_name n named (word_fragment laws word.Int);
    spelled = int_field;
  }
  field_read _ _ (text_field {n}) (named, _) _ = record {
    symbols = name n ∷ key word.Text ∷ [];
    fragment = spaced_name n named (word_fragment laws word.Text);
    spelled = text_field;
  }

  column_read : AreReadAs IsColumn IsColumn field_text Anything
  column_read _ _ (is_plain {ts = ts} {f = f} d) h _ = respelled (λ _ k. is_plain k) (field_read ts f d h tt)
  column_read _ _ (is_nullable (int_field {n})) (named, _) _ = record {
    symbols = name n ∷ key word.Int ∷ key word.Null ∷ [];
    fragment = spaced_name n named (spaced_word laws word.Int (word_fragment laws word.Null));
    spelled = is_nullable int_field;
  }
  column_read _ _ (is_nullable (text_field {n})) (named, _) _ = record {
    symbols = name n ∷ key word.Text ∷ key word.Null ∷ [];
    fragment = spaced_name n named (spaced_word laws word.Text (word_fragment laws word.Null));
    spelled = is_nullable text_field;
  }

module _ (laws : TokenLaws) {Inner : Spells} (inner : AreRead Inner) where
  check_read : AreReadAs (IsCheck Inner) (IsCheck Shallow) check_text IsLow
  unfolding check_text
  check_read _ _ (is_check {ts = ts} {e = e} d) (_, row) low = word_first laws word.Check (λ _ k. is_check k) (low_expression laws inner ts e d row low)

  checks_read : AreReadAs (Following (IsCheck Inner)) (Following (IsCheck Shallow)) (preceded (codes ", check ") expr_text) (Each IsLow)
  checks_read ts es d h low =
      subst (λ (bytes : List ℕ). IsReadAs (Following (IsCheck Shallow)) bytes es) (checks_text es) (following_read laws check_read ts es d h low)

  -- ---- tables

  table_read : AreReadAs (IsTable Inner) (IsTable Shallow) table_text (λ d. Each IsLow d.checks)
  table_read _ _ (is_table {t = t} {a = a} {b = b} {c = c} {f = f} {fs = fs} {es = es} d k g) (_, (_, (named, (_, row)))) low =
      let first = each_of_append HasToken a (key word.Key ∷ (b ++ (c ++ sign mark.Close ∷ []))) row in
      let others = each_of_append HasToken b (c ++ sign mark.Close ∷ []) first.1.1 in
      let last = each_of_append HasToken c (sign mark.Close ∷ []) others.1 in
      let x = field_read laws a f d first.0 tt in
      let y = following_read laws (column_read laws) b fs k others.0 (each_is_anything fs) in
      let z = checks_read c es g last.0 low in
      let checks = closed laws z.fragment in
      let fields = word_before laws word.Key (λ rest next. (following_stops field_text fs rest next).words) y.fragment in
      let columns = behind_space x.fragment fields in
      let items = behind columns (λ rest next. checks_stops es rest) checks in
      let close : Symbols = sign mark.Close ∷ [] in
      record {
        symbols = key word.Create ∷ key word.Table ∷ name t ∷ sign mark.Open ∷ (x.symbols ++ key word.Key ∷ (y.symbols ++ (z.symbols ++ close)));
        fragment = spaced_word laws word.Create (spaced_word laws word.Table (spaced_name t named (open_before laws (regrouped (append_assoc x.symbols (key word.Key ∷ y.symbols) (z.symbols ++ close)) items))));
        spelled = is_table x.spelled y.spelled z.spelled;
      }

pub canonical_table : TokenLaws → (bytes : List ℕ) (d : TableDef) → SpellsTable bytes d → table_limit d ≡ None → SpellsShallowTable (table_text d) d
unfolding table_limit
canonical_table laws bytes d spells limit =
    canonical_spells laws (table_read laws (within_read laws _)) bytes d spells (all_low d.checks (other_is_none (table_passed d) (height_passed d.checks) limit))
