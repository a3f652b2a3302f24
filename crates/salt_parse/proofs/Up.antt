-- What is spelled with fewer parentheses is spelled with more.
use Rattle.std.proofs.Common.{ℕ, zero, suc, ◌≤◌, List, Option, arith}
use Rattle.salt_ast.specs.Grammar.{Atom, Conjunction, Expression, Left, Nots, Once, Sum, Within, alone, colon, literal, minus_int, more, named, not}
use Rattle.salt_ast.specs.Grammar.{is_not_null, is_null, one, pair, paren, plain, plus_int}
use Rattle.salt_ast.specs.Statements as form
use Rattle.salt_ast.specs.Statements.{ColumnValue, FollowingBy, IsAnd, IsScan, IsSet, IsStatement, ListedBy}
use Rattle.salt_ast.specs.Tables as table
use Rattle.salt_ast.specs.Tables.{IsCheck, IsTable}
use Rattle.salt_ast.specs.declared.trees.Expr.{Expr}
use Rattle.salt_ast.specs.declared.trees.Scan.{Scan}
use Rattle.salt_ast.specs.Symbols.{Symbols}
use Rattle.salt_ast.specs.declared.sign.Sign.{Sign}

-- each row of the first spells the same by the second
abbrev pub Upwards : {A : Type 0} → (Symbols → A → Type 0) → (Symbols → A → Type 0) → Type 0
Upwards {A} I J = (ts : Symbols) (x : A) → I ts x → J ts x

module _ {I J : Symbols → Expr → Type 0} (up : Upwards I J) where
  left_up : (level : ℕ) {ts : Symbols} {e : Expr} → Left level I ts e → Left level J ts e
  left_up level {ts} {e} (one g) = one (up ts e g)
  left_up level (more {b = b} {r = r} d t eq lv g) = more (left_up level d) t eq lv (up b r g)

  once_up : (level : ℕ) {ts : Symbols} {e : Expr} → Once level I ts e → Once level J ts e
  once_up level {ts} {e} (alone g) = alone (up ts e g)
  once_up level (pair {a = a} {b = b} {l = l} {r = r} g t eq lv g2) = pair (up a l g) t eq lv (up b r g2)
  once_up level (is_null {ts = ts} {e = e} g) = is_null (up ts e g)
  once_up level (is_not_null {ts = ts} {e = e} g) = is_not_null (up ts e g)

  nots_up : {ts : Symbols} {e : Expr} → Nots I ts e → Nots J ts e
  nots_up {ts} {e} (plain g) = plain (up ts e g)
  nots_up (not d) = not (nots_up d)

  atom_up : {ts : Symbols} {e : Expr} → Atom I ts e → Atom J ts e
  atom_up plus_int = plus_int
  atom_up minus_int = minus_int
  atom_up literal = literal
  atom_up named = named
  atom_up colon = colon
  atom_up (paren {ts = ts} {e = e} g) = paren (up ts e g)

module _ {I J : Symbols → Expr → Type 0} (up : Upwards I J) where
  sum_up : Upwards (Sum I) (Sum J)
  sum_up ts e d = left_up (λ ts e p. left_up (λ ts e a. atom_up up a) 5 p) 4 d

  conjunction_up : Upwards (Conjunction I) (Conjunction J)
  conjunction_up ts e d = left_up (λ ts e n. nots_up (λ ts e m. once_up sum_up 3 m) n) 2 d

  expression_up : Upwards (Expression I) (Expression J)
  expression_up ts e d = left_up conjunction_up 1 d

pub within_up : (d n : ℕ) → d ≤ n → Upwards (Within d) (Within n)
unfolding Within
within_up zero n le ts e d = absurd d
within_up (suc d) zero le ts e h = absurd (omega arith)
within_up (suc d) (suc n) le ts e h = expression_up (λ ts e k. within_up d n (omega arith) ts e k) ts e h

-- ---- lists

module _ {A : Type 0} {m : Sign} {G H : Symbols → A → Type 0} (up : Upwards G H) where
  pub following_up : {ts : Symbols} {xs : List A} → FollowingBy m G ts xs → FollowingBy m H ts xs
  following_up form.no_more = form.no_more
  following_up (form.one_more {a = a} {x = x} g d) = form.one_more (up a x g) (following_up d)

  pub listed_up : {ts : Symbols} {xs : List A} → ListedBy m G ts xs → ListedBy m H ts xs
  listed_up (form.items {a = a} {x = x} g d) = form.items (up a x g) (following_up d)

-- ---- statements and tables

module _ {I J : Symbols → Expr → Type 0} (up : Upwards I J) where
  and_up : {ts : Symbols} {w : Option Expr} → IsAnd I ts w → IsAnd J ts w
  and_up form.no_and = form.no_and
  and_up (form.and {ts = ts} {e = e} d) = form.and (conjunction_up up ts e d)

  scan_up : {ts : Symbols} {x : Scan} → IsScan I ts x → IsScan J ts x
  scan_up form.no_where = form.no_where
  scan_up (form.where_key {a = a} {e = e} d k) = form.where_key (sum_up up a e d) (and_up k)
  scan_up (form.where_between {a = a} {b = b} {low = low} {high = high} d d2 k) = form.where_between (sum_up up a low d) (sum_up up b high d2) (and_up k)
  scan_up (form.where_filter {ts = ts} {e = e} d) = form.where_filter (expression_up up ts e d)

  value_up : Upwards (ColumnValue I) (ColumnValue J)
  value_up _ _ (form.is_expression {ts = ts} {e = e} d) = form.is_expression (expression_up up ts e d)
  value_up _ _ form.is_null = form.is_null

  set_up : Upwards (IsSet I) (IsSet J)
  set_up _ _ (form.is_set {ts = ts} {e = e} d) = form.is_set (value_up ts e d)

  check_up : Upwards (IsCheck I) (IsCheck J)
  check_up _ _ (table.is_check {ts = ts} {e = e} d) = table.is_check (expression_up up ts e d)

  pub table_up : Upwards (IsTable I) (IsTable J)
  table_up _ _ (table.is_table f d k) = table.is_table f d (following_up check_up k)

pub statement_up : {I J K L : Symbols → Expr → Type 0} → Upwards I J → Upwards K L → Upwards (IsStatement I K) (IsStatement J L)
statement_up up deeper _ _ (form.is_insert l) = form.is_insert (listed_up (value_up deeper) l)
statement_up up deeper _ _ (form.is_select w s) = form.is_select w (scan_up up s)
statement_up up deeper _ _ (form.is_select_into {ts = ts} {e = e} d) = form.is_select_into (sum_up up ts e d)
statement_up up deeper _ _ (form.is_update l s) = form.is_update (listed_up (set_up up) l) (scan_up up s)
statement_up up deeper _ _ (form.is_delete s) = form.is_delete (scan_up up s)
statement_up up deeper _ _ (form.is_ensure {ts = ts} {e = e} d) = form.is_ensure (expression_up up ts e d)
