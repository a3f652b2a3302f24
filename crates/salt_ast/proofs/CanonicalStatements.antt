-- Canonical texts of statements are read as their trees.
use Rattle.salt_ast.proofs.CanonicalExprs.{AreRead, within_read}
use Rattle.salt_ast.proofs.CanonicalLists.{listed_read}
use Rattle.salt_ast.proofs.Each.{Anything, Each, each_is_anything, each_of_append, each_of_map}
use Rattle.salt_ast.proofs.Fragments.{IsFragment, IsNameWord, Stops, behind, behind_space, close_before, closed, colon_before, name_fragment, nothing, open_before, respelled, space_before, space_first, space_stops, spaced_name, spaced_sign, spaced_word, star_before, word_before, word_first, word_fragment}
use Rattle.salt_ast.proofs.LowExprs.{IsLow, Shallow, all_low, low_conjunction, low_expression, low_sum, other_is_none}
use Rattle.salt_ast.proofs.TokenRows.{AreReadAs, HasToken, canonical_spells}
use Rattle.salt_ast.specs.TokenLaws.{TokenLaws}
use Rattle.salt_ast.specs.Grammar.{Spells}
use Rattle.salt_ast.specs.Limits.{height_passed, statement_limit, statement_passed}
use Rattle.salt_ast.specs.Spelling.{SpellsShallowStatement, SpellsStatement}
use Rattle.salt_ast.specs.Statements.{ColumnValue, IsAnd, IsName, IsScan, IsSet, IsStatement, IsWhat, and, count_rows, every_column, is_delete, is_ensure, is_expression, is_insert, is_name, is_null, is_select, is_select_into, is_set, is_update, max_of, min_of, named_columns, no_and, no_where, sum_of, where_between, where_filter, where_key}
use Rattle.salt_ast.specs.Texts.{bound_text, expr_text, filter_text, name_text, scan_text, set_text, statement_text, what_text}
use Rattle.salt_ast.specs.Trees.{scan_exprs, statement_exprs}
use Rattle.salt_ast.specs.declared.trees.Bound.{Bound}
use Rattle.salt_ast.specs.declared.trees.Bound.TheVariants as bound
use Rattle.salt_ast.specs.declared.trees.Expr.{Expr}
use Rattle.salt_ast.specs.declared.trees.Scan.{Scan}
use Rattle.salt_ast.specs.declared.trees.Statement.{Statement}
use Rattle.salt_ast.specs.TokenSpelling.{keyword_spelling}
use Rattle.salt_ast.specs.Symbols.{key, name, sign}
use Rattle.salt_ast.specs.declared.keyword.Keyword.{Keyword}
use Rattle.salt_ast.specs.declared.keyword.Keyword.TheVariants as word
use Rattle.salt_ast.specs.declared.sign.Sign.TheVariants as mark
use Rattle.std.proofs.Common.{List, None, Option, Some, [], codes, map, refl, ℕ, ◌++◌, ◌∷◌, ◌≡◌}
use Rattle.std.specs.Prelude.{option_to_list}
use Rattle.salt_ast.specs.declared.trees.Set.{Set}

-- ---- names, and what is shown

name_read : AreReadAs IsName IsName name_text Anything
name_read _ _ (is_name {n}) (named, _) _ = record { symbols = name n ∷ []; fragment = name_fragment n named; spelled = is_name }

module _ (laws : TokenLaws) where
  -- what is computed of a column
  of_column : (k : Keyword) (n : List ℕ) → IsNameWord n → IsFragment Stops (keyword_spelling k ++ (codes "(" ++ (n ++ codes ")"))) (key k ∷ sign mark.Open ∷ name n ∷ sign mark.Close ∷ [])
  of_column k n named = word_before laws k (λ rest next. refl) (open_before laws (closed laws (name_fragment n named)))

  what_read : AreReadAs IsWhat IsWhat what_text Anything
  what_read _ _ every_column h _ = record { symbols = sign mark.Star ∷ []; fragment = star_before laws nothing; spelled = every_column }
  what_read _ _ (named_columns {ts = ts} {ns = ns} d) h _ = respelled (λ _ d. named_columns d) (listed_read laws name_read ts ns d h (each_is_anything ns))
  what_read _ _ count_rows h _ = record {
    symbols = key word.Count ∷ sign mark.Open ∷ sign mark.Star ∷ sign mark.Close ∷ [];
    fragment = word_before laws word.Count (λ rest next. refl) (open_before laws (star_before laws (close_before laws nothing)));
    spelled = count_rows;
  }
  what_read _ _ (sum_of {n}) (_, (_, (named, _))) _ = record {
    symbols = key word.Sum ∷ sign mark.Open ∷ name n ∷ sign mark.Close ∷ [];
    fragment = of_column word.Sum n named;
    spelled = sum_of;
  }
  what_read _ _ (min_of {n}) (_, (_, (named, _))) _ = record {
    symbols = key word.Min ∷ sign mark.Open ∷ name n ∷ sign mark.Close ∷ [];
    fragment = of_column word.Min n named;
    spelled = min_of;
  }
  what_read _ _ (max_of {n}) (_, (_, (named, _))) _ = record {
    symbols = key word.Max ∷ sign mark.Open ∷ name n ∷ sign mark.Close ∷ [];
    fragment = of_column word.Max n named;
    spelled = max_of;
  }

-- ---- scans

and_stops : (f : Option Expr) (rest : List ℕ) → Stops rest → Stops (filter_text (codes " and ") f ++ rest)
and_stops None rest h = h
and_stops (Some e) rest h = space_stops _

bound_stops : (b : Bound) (f : Option Expr) (rest : List ℕ) → Stops rest → Stops (bound_text b f ++ rest)
bound_stops bound.All None rest h = h
bound_stops bound.All (Some e) rest h = space_stops _
bound_stops (bound.Key e) f rest h = space_stops _
bound_stops (bound.Between low high) f rest h = space_stops _

scan_stops : (scan : Scan) (rest : List ℕ) → Stops rest → Stops (scan_text scan ++ rest)
scan_stops scan = bound_stops scan.bound scan.filter

module _ (laws : TokenLaws) {Inner : Spells} (inner : AreRead Inner) where
  and_read : AreReadAs (IsAnd Inner) (IsAnd Shallow) (filter_text (codes " and ")) (λ f. Each IsLow (option_to_list f))
  and_read _ _ no_and h low = record { symbols = []; fragment = nothing; spelled = no_and }
  and_read _ _ (and {ts = ts} {e = e} d) (_, row) (low, _) = space_first (word_first laws word.And (λ _ d. and d) (low_conjunction laws inner ts e d row low))

  scan_read : AreReadAs (IsScan Inner) (IsScan Shallow) scan_text (λ scan. Each IsLow (scan_exprs scan))
  scan_read _ _ no_where h low = record { symbols = []; fragment = nothing; spelled = no_where }
  scan_read _ _ (where_key {a = a} {b = b} {e = e} {f = f} d k) (_, (_, (_, row))) (low, lows) =
      let rows = each_of_append HasToken a b row in
      let x = low_sum laws inner a e d rows.0 low in
      let y = and_read b f k rows.1 lows in
      let bounds = behind x.fragment (and_stops f) y.fragment in
      record {
        symbols = key word.Where ∷ key word.Key ∷ sign mark.Equal ∷ (x.symbols ++ y.symbols);
        fragment = space_before (spaced_word laws word.Where (spaced_word laws word.Key (spaced_sign laws mark.Equal bounds)));
        spelled = where_key x.spelled y.spelled;
      }
  scan_read _ _ (where_between {a = a} {b = b} {c = c} {low = l} {high = m} {f = f} d k g) (_, (_, (_, row))) (low, (high, lows)) =
      let first = each_of_append HasToken a (key word.And ∷ (b ++ c)) row in
      let others = each_of_append HasToken b c first.1.1 in
      let x = low_sum laws inner a l d first.0 low in
      let y = low_sum laws inner b m k others.0 high in
      let z = and_read c f g others.1 lows in
      let last = behind y.fragment (and_stops f) z.fragment in
      let bounds = behind_space x.fragment (spaced_word laws word.And last) in
      record {
        symbols = key word.Where ∷ key word.Key ∷ key word.Between ∷ (x.symbols ++ key word.And ∷ (y.symbols ++ z.symbols));
        fragment = space_before (spaced_word laws word.Where (spaced_word laws word.Key (spaced_word laws word.Between bounds)));
        spelled = where_between x.spelled y.spelled z.spelled;
      }
  scan_read _ _ (where_filter {ts = ts} {e = e} d) (_, row) (low, _) =
      space_first (word_first laws word.Where (λ _ d. where_filter d) (low_expression laws inner ts e d row low))

  -- ---- what columns take

  value_read : AreReadAs (ColumnValue Inner) (ColumnValue Shallow) expr_text IsLow
  value_read _ _ (is_expression {ts = ts} {e = e} d) h low = respelled (λ _ d. is_expression d) (low_expression laws inner ts e d h low)
  value_read _ _ is_null h low = record { symbols = key word.Null ∷ []; fragment = word_fragment laws word.Null; spelled = is_null }

  set_read : AreReadAs (IsSet Inner) (IsSet Shallow) set_text (λ set. IsLow set.value)
  set_read _ _ (is_set {n = n} {ts = ts} {e = e} d) (named, (_, row)) low =
      let x = value_read ts e d row low in
      record {
        symbols = name n ∷ sign mark.Equal ∷ x.symbols;
        fragment = spaced_name n named (spaced_sign laws mark.Equal x.fragment);
        spelled = is_set x.spelled;
      }

-- ---- statements

-- each of its expressions is no higher than the limit on depth
abbrev pub IsLowStatement : Statement → Type 0
IsLowStatement st = Each IsLow (statement_exprs st)

module _ (laws : TokenLaws) {Inner Deeper : Spells} (inner : AreRead Inner) (deeper : AreRead Deeper) where
  pub statement_read : AreReadAs (IsStatement Inner Deeper) (IsStatement Shallow Shallow) statement_text IsLowStatement
  statement_read _ _ (is_insert {t = t} {ts = ts} {es = es} d) (_, (_, (named, (_, (_, row))))) low =
      let x = listed_read laws (value_read laws deeper) ts es d (each_of_append HasToken ts (sign mark.Close ∷ []) row).0 low in
      let values = spaced_word laws word.Values (open_before laws (closed laws x.fragment)) in
      record {
        symbols = key word.Insert ∷ key word.Into ∷ name t ∷ key word.Values ∷ sign mark.Open ∷ (x.symbols ++ sign mark.Close ∷ []);
        fragment = spaced_word laws word.Insert (spaced_word laws word.Into (spaced_name t named values));
        spelled = is_insert x.spelled;
      }
  statement_read _ _ (is_select {t = t} {a = a} {b = b} {w = w} {scan = scan} d k) (_, row) low =
      let rows = each_of_append HasToken a (key word.From ∷ name t ∷ b) row in
      let x = what_read laws a w d rows.0 tt in
      let y = scan_read laws inner b scan k rows.1.1.1 low in
      let table = behind (name_fragment t rows.1.1.0) (scan_stops scan) y.fragment in
      record {
        symbols = key word.Select ∷ (x.symbols ++ key word.From ∷ name t ∷ y.symbols);
        fragment = spaced_word laws word.Select (behind_space x.fragment (spaced_word laws word.From table));
        spelled = is_select x.spelled y.spelled;
      }
  statement_read _ _ (is_select_into {c = c} {v = v} {t = t} {ts = ts} {e = e} d) (_, (column, (_, (_, (variable, (_, (table, (_, (_, (_, row)))))))))) (low, _) =
      let x = low_sum laws inner ts e d row low in
      let at_key = spaced_word laws word.Where (spaced_word laws word.Key (spaced_sign laws mark.Equal x.fragment)) in
      let from_table = spaced_word laws word.From (spaced_name t table at_key) in
      let into = spaced_word laws word.Into (colon_before laws (spaced_name v variable from_table)) in
      record {
        symbols = key word.Select ∷ name c ∷ key word.Into ∷ sign mark.Colon ∷ name v ∷ key word.From ∷ name t ∷ key word.Where ∷ key word.Key ∷ sign mark.Equal ∷ x.symbols;
        fragment = spaced_word laws word.Select (spaced_name c column into);
        spelled = is_select_into x.spelled;
      }
  statement_read _ _ (is_update {t = t} {a = a} {b = b} {sets = sets} {scan = scan} d k) (_, (named, (_, row))) low =
      let rows = each_of_append HasToken a b row in
      let lows = each_of_append IsLow (map (λ (s : Set). s.value) sets) (scan_exprs scan) low in
      let x = listed_read laws (set_read laws inner) a sets d rows.0 (each_of_map IsLow (λ (s : Set). s.value) sets lows.0) in
      let y = scan_read laws inner b scan k rows.1 lows.1 in
      let changes = spaced_word laws word.Set (behind x.fragment (scan_stops scan) y.fragment) in
      record {
        symbols = key word.Update ∷ name t ∷ key word.Set ∷ (x.symbols ++ y.symbols);
        fragment = spaced_word laws word.Update (spaced_name t named changes);
        spelled = is_update x.spelled y.spelled;
      }
  statement_read _ _ (is_delete {t = t} {ts = ts} {scan = scan} d) (_, (_, (named, row))) low =
      let x = scan_read laws inner ts scan d row low in
      let table = behind (name_fragment t named) (scan_stops scan) x.fragment in
      record {
        symbols = key word.Delete ∷ key word.From ∷ name t ∷ x.symbols;
        fragment = spaced_word laws word.Delete (spaced_word laws word.From table);
        spelled = is_delete x.spelled;
      }
  statement_read _ _ (is_ensure {ts = ts} {e = e} d) (_, row) (low, _) = word_first laws word.Ensure (λ _ d. is_ensure d) (low_expression laws inner ts e d row low)

pub canonical_statement : TokenLaws → (bytes : List ℕ) (st : Statement) → SpellsStatement bytes st → statement_limit st ≡ None → SpellsShallowStatement (statement_text st) st
unfolding statement_limit
canonical_statement laws bytes st spells limit =
    canonical_spells laws (statement_read laws (within_read laws _) (within_read laws _)) bytes st spells
    (all_low (statement_exprs st) (other_is_none (statement_passed st) (height_passed (statement_exprs st)) limit))
