-- The statements and tables that are spelled so are found.
use Rattle.std.proofs.Common.{◌≡◌, false, List, [], ◌∷◌, ◌++◌, Option, Some, None, refl, append_assoc, arith}
use Rattle.salt_ast.specs.Statements as form
use Rattle.salt_ast.specs.Statements.{ColumnValue, Following, IsAnd, IsName, IsScan, IsSet, IsStatement, IsWhat, Listed}
use Rattle.salt_ast.specs.Tables as table
use Rattle.salt_ast.specs.Tables.{IsCheck, IsColumn, IsField, IsTable}
use Rattle.salt_ast.specs.declared.trees.Expr.{Expr}
use Rattle.salt_ast.specs.declared.trees.Field.{Field}
use Rattle.salt_ast.specs.declared.trees.Scan.{Scan}
use Rattle.salt_ast.specs.declared.trees.Set.{Set}
use Rattle.salt_ast.specs.declared.trees.TableDef.{TableDef}
use Rattle.salt_ast.specs.declared.trees.What.{What}
use Rattle.salt_parse.specs.Lists.{comma}
use Rattle.salt_parse.specs.Reading.{after}
use Rattle.salt_parse.specs.StatementReading.{is_into}
use Rattle.salt_parse.specs.TableReading.{field_comma}
use Rattle.salt_parse.proofs.ExpressionLaws.{Begins-after, Begins-append, Complete, Sound, Stops, Stops-weaker, conjunction_complete}
use Rattle.salt_parse.proofs.ListLaws.{CompleteFor, following_complete, listed_complete, listed_of_sign, of_sign}
use Rattle.salt_parse.proofs.ExpressionLaws.{expression_begins, expression_complete, sum_complete}
use Rattle.salt_parse.proofs.StatementTrees.{and_of, check_of, column_of, field_of, listed_of, name_of, scan_of, set_of, sets_of, statement_of}
use Rattle.salt_parse.proofs.StatementTrees.{table_of, value_of, values_of, what_of}
use Rattle.salt_parse.proofs.Trees.{TreeReader}
use Rattle.salt_ast.specs.Symbols.{Symbols, key, name, sign}
use Rattle.salt_ast.specs.declared.keyword.Keyword.TheVariants as word
use Rattle.salt_ast.specs.declared.sign.Sign.TheVariants as mark

-- what may follow a statement: no operation, no `where` and no comma
pub record Ends (rest : Symbols) : Type 0 where
  pub stops : Stops 1 rest
  pub no_where : after (key word.Where) rest ≡ None
  pub no_comma : comma rest ≡ None

abbrev Anything : Symbols → Type 0
Anything rest = Unit {0}

pub name_complete : CompleteFor Anything IsName name_of
name_complete _ rest _ form.is_name f = refl

-- ---- lists

comma_stops : (us : Symbols) → Stops 1 (sign mark.Comma ∷ us)
comma_stops us = omega arith

pub comma_opens : {A : Type 0} (G : Symbols → A → Type 0) (u us : Symbols) (x : A) → G u x → comma (sign mark.Comma ∷ (u ++ us)) ≡ Some (u ++ us)
unfolding after
comma_opens G u us x g = refl

commas_complete : {A : Type 0} (G : Symbols → A → Type 0) (find : TreeReader A) (Follow : Symbols → Type 0) (c : CompleteFor Follow G find)
    (goes : (us : Symbols) → Follow (sign mark.Comma ∷ us)) {ts : Symbols} {xs : List A} (rest : Symbols) → Listed G ts xs → Follow rest →
    comma rest ≡ None → listed_of comma find (ts ++ rest) ≡ Some (xs, rest)
commas_complete G find Follow c goes rest d f a =
    listed_complete (sign mark.Comma) comma G find Follow c goes (comma_opens G) rest (listed_of_sign d) f a

-- ---- what a SELECT shows

from_stops : (us : Symbols) → comma (key word.From ∷ us) ≡ None
unfolding after
from_stops us = refl

what_complete : {ts : Symbols} {x : What} (us : Symbols) → IsWhat ts x → what_of (ts ++ key word.From ∷ us) ≡ Some (x, key word.From ∷ us)
unfolding after
what_complete us form.every_column = refl
what_complete us (form.named_columns (form.items {b = b} {xs = ns} (form.is_name {n = n}) d)) =
    let names = commas_complete IsName name_of Anything name_complete (λ us. tt) {ts = name n ∷ b} {xs = n ∷ ns} (key word.From ∷ us)
    (form.items form.is_name d) tt (from_stops us) in
    rw names refl
what_complete us form.count_rows = refl
what_complete us form.sum_of = refl
what_complete us form.min_of = refl
what_complete us form.max_of = refl

not_into : {ts : Symbols} {x : What} (us : Symbols) → IsWhat ts x → is_into (ts ++ key word.From ∷ us) ≡ false
not_into us form.every_column = refl
not_into us (form.named_columns (form.items form.is_name form.no_more)) = refl
not_into us (form.named_columns (form.items form.is_name (form.one_more g d))) = refl
not_into us form.count_rows = refl
not_into us form.sum_of = refl
not_into us form.min_of = refl
not_into us form.max_of = refl

-- ---- `where`

module _ (Inner : Symbols → Expr → Type 0) (find : TreeReader Expr) (s : Sound Inner find) (c : Complete 1 Inner find) where
  and_complete : CompleteFor (Stops 1) (IsAnd Inner) (and_of find)
  unfolding after
  and_complete _ rest _ form.no_and st = rw (no_and_next rest st) refl
    where
      no_and_next : (rest : Symbols) → Stops 1 rest → after (key word.And) rest ≡ None
      no_and_next [] st = refl
      no_and_next (key word.And ∷ us) st = absurd (omega arith)
      no_and_next _ st = refl
  and_complete _ rest _ (form.and {ts = ts} {e = e} d) st = rw (conjunction_complete Inner find s c ts rest e d (Stops-weaker 1 2 rest (omega arith) st)) refl

  and_stops : {b : Symbols} {f : Option Expr} (rest : Symbols) → IsAnd Inner b f → Stops 1 rest → Stops 4 (b ++ rest)
  and_stops rest form.no_and st = Stops-weaker 1 4 rest (omega arith) st
  and_stops rest (form.and d) st = omega arith

  scan_complete : CompleteFor Ends (IsScan Inner) (scan_of find)
  unfolding after
  scan_complete _ rest _ form.no_where st = rw st.no_where refl
  scan_complete _ rest _ (form.where_filter {ts = a} {e = f} d) st =
      rw (
        Begins-after word.Key (a ++ rest) (Begins-append word.Key a rest (expression_begins word.Key refl Inner a f d)),
        expression_complete Inner find s c a rest f d st.stops,
      ) refl
  scan_complete _ rest _ (form.where_key {a = a} {b = b} {e = e} {f = f} d k) st =
      rw (append_assoc a b rest, sum_complete Inner find s c a (b ++ rest) e d (and_stops rest k st.stops), and_complete b rest f k st.stops) refl
  scan_complete _ rest _ (form.where_between {a = a} {b = b} {c = m} {low = e} {high = g} {f = f} d d2 k) st =
      let stops : Stops 4 (key word.And ∷ ((b ++ m) ++ rest)) = omega arith in
      rw (append_assoc a (key word.And ∷ (b ++ m)) rest, sum_complete Inner find s c a (key word.And ∷ ((b ++ m) ++ rest)) e d stops)
      (rw (append_assoc b m rest, sum_complete Inner find s c b (m ++ rest) g d2 (and_stops rest k st.stops), and_complete m rest f k st.stops) refl)

  -- what follows the columns of an UPDATE
  scan_stops : {ts : Symbols} {x : Scan} (rest : Symbols) → IsScan Inner ts x → Ends rest → Stops 1 (ts ++ rest)
  scan_stops rest form.no_where st = st.stops
  scan_stops rest (form.where_filter d) st = omega arith
  scan_stops rest (form.where_key d k) st = omega arith
  scan_stops rest (form.where_between d d2 k) st = omega arith

  scan_no_comma : {ts : Symbols} {x : Scan} (rest : Symbols) → IsScan Inner ts x → Ends rest → comma (ts ++ rest) ≡ None
  unfolding after
  scan_no_comma rest form.no_where st = st.no_comma
  scan_no_comma rest (form.where_filter d) st = refl
  scan_no_comma rest (form.where_key d k) st = refl
  scan_no_comma rest (form.where_between d d2 k) st = refl

  value_complete : CompleteFor (Stops 1) (ColumnValue Inner) (value_of find)
  unfolding after
  value_complete _ rest _ (form.is_expression {ts = ts} {e = e} d) st =
      rw (
        Begins-after word.Null (ts ++ rest) (Begins-append word.Null ts rest (expression_begins word.Null refl Inner ts e d)),
        expression_complete Inner find s c ts rest e d st,
      ) refl
  value_complete _ rest _ form.is_null st = refl

  set_complete : CompleteFor (Stops 1) (IsSet Inner) (set_of find)
  unfolding after
  set_complete _ rest _ (form.is_set {n = n} {ts = ts} {e = e} d) st = rw (value_complete ts rest e d st) refl

  sets_complete : {ts : Symbols} {xs : List Set} (rest : Symbols) → Listed (IsSet Inner) ts xs → Stops 1 rest → comma rest ≡ None →
      sets_of find (ts ++ rest) ≡ Some (xs, rest)
  sets_complete rest d st a = commas_complete (IsSet Inner) (set_of find) (Stops 1) set_complete comma_stops rest d st a

  values_complete : {ts : Symbols} {xs : List Expr} (rest : Symbols) → Listed (ColumnValue Inner) ts xs → Stops 1 rest → comma rest ≡ None →
      values_of find (ts ++ rest) ≡ Some (xs, rest)
  values_complete rest d st a = commas_complete (ColumnValue Inner) (value_of find) (Stops 1) value_complete comma_stops rest d st a

close_stops : (us : Symbols) → Stops 1 (sign mark.Close ∷ us)
close_stops us = omega arith

close_no_comma : (us : Symbols) → comma (sign mark.Close ∷ us) ≡ None
unfolding after
close_no_comma us = refl

pub statement_complete : (Inner Deeper : Symbols → Expr → Type 0) (find found : TreeReader Expr) → Sound Inner find → Sound Deeper found →
    Complete 1 Inner find → Complete 1 Deeper found → CompleteFor Ends (IsStatement Inner Deeper) (statement_of find found)
unfolding after
statement_complete Inner Deeper find found s t c d _ rest _ (form.is_insert {ts = ts} {es = es} l) st =
    rw (append_assoc ts (sign mark.Close ∷ []) rest, values_complete Deeper found t d (sign mark.Close ∷ rest) l (close_stops rest) (close_no_comma rest)) refl
statement_complete Inner Deeper find found s t c d _ rest _ (form.is_select {t = n} {a = a} {b = b} {w = w} {scan = scan} k sc) st =
    rw (
      append_assoc a (key word.From ∷ name n ∷ b) rest,
      not_into (name n ∷ (b ++ rest)) k,
      what_complete (name n ∷ (b ++ rest)) k,
      scan_complete Inner find s c b rest scan sc st,
    ) refl
statement_complete Inner Deeper find found s t c d _ rest _ (form.is_select_into {ts = ts} {e = e} k) st =
    rw (sum_complete Inner find s c ts rest e k (Stops-weaker 1 4 rest (omega arith) st.stops)) refl
statement_complete Inner Deeper find found s t c d _ rest _ (form.is_update {t = n} {a = a} {b = b} {sets = sets} {scan = scan} l sc) st =
    rw (
      append_assoc a b rest,
      sets_complete Inner find s c (b ++ rest) l (scan_stops Inner find s c rest sc st)
          (scan_no_comma Inner find s c rest sc st),
      scan_complete Inner find s c b rest scan sc st,
    ) refl
statement_complete Inner Deeper find found s t c d _ rest _ (form.is_delete {ts = ts} {scan = scan} sc) st = rw
    (scan_complete Inner find s c ts rest scan sc st) refl
statement_complete Inner Deeper find found s t c d _ rest _ (form.is_ensure {ts = ts} {e = e} k) st = rw
    (expression_complete Inner find s c ts rest e k st.stops) refl

-- ---- tables

pub field_complete : CompleteFor Anything IsField field_of
unfolding after
field_complete _ rest _ table.int_field f = refl
field_complete _ rest _ table.text_field f = refl

column_complete : CompleteFor (λ rest. after (key word.Null) rest ≡ None) IsColumn column_of
unfolding after
column_complete ts rest x (table.is_plain g) f = rw (field_complete ts rest x g tt, f) refl
column_complete _ rest _ (table.is_nullable {ts = ts} {f = c} g) f =
    rw (append_assoc ts (key word.Null ∷ []) rest, field_complete ts (key word.Null ∷ rest) c g tt) refl

column_opens : (u us : Symbols) (x : Field) → IsColumn u x → field_comma (sign mark.Comma ∷ (u ++ us)) ≡ Some (u ++ us)
unfolding after
column_opens _ us _ (table.is_plain table.int_field) = refl
column_opens _ us _ (table.is_plain table.text_field) = refl
column_opens _ us _ (table.is_nullable table.int_field) = refl
column_opens _ us _ (table.is_nullable table.text_field) = refl

module _ (Inner : Symbols → Expr → Type 0) (find : TreeReader Expr) (s : Sound Inner find) (c : Complete 1 Inner find) where
  check_complete : CompleteFor (Stops 1) (IsCheck Inner) (check_of find)
  unfolding after
  check_complete _ rest _ (table.is_check {ts = ts} {e = e} d) st = expression_complete Inner find s c ts rest e d st

  -- no further column stands before the checks
  no_field : {ts : Symbols} {es : List Expr} (rest : Symbols) → Following (IsCheck Inner) ts es → field_comma (ts ++ sign mark.Close ∷ rest) ≡ None
  unfolding after
  no_field rest form.no_more = refl
  no_field rest (form.one_more (table.is_check d) k) = refl

  -- nor does `null` begin what stands behind the columns
  no_null : {ts : Symbols} {es : List Expr} (rest : Symbols) → Following (IsCheck Inner) ts es → after (key word.Null) (ts ++ sign mark.Close ∷ rest) ≡ None
  unfolding after
  no_null rest form.no_more = refl
  no_null rest (form.one_more d k) = refl

  pub table_complete : (ts rest : Symbols) (x : TableDef) → IsTable Inner ts x → table_of find (ts ++ rest) ≡ Some (x, rest)
  unfolding after
  table_complete _ rest _ (table.is_table {t = t} {a = a} {b = b} {c = m} {f = f} {fs = fs} {es = es} g d k) =
      let behind : Symbols = sign mark.Close ∷ rest in
      let fields = following_complete (sign mark.Comma) field_comma IsColumn column_of (λ us. after (key word.Null) us ≡ None) column_complete
      (λ us. refl) column_opens {ts = b} {xs = fs} (m ++ behind) (of_sign d) (no_null rest k) (no_field rest k) in
      let checks = following_complete (sign mark.Comma) comma (IsCheck Inner) (check_of find) (Stops 1) check_complete comma_stops
      (comma_opens (IsCheck Inner)) {ts = m} {xs = es} behind (of_sign k) (close_stops rest) (close_no_comma rest) in
      rw (
        append_assoc a (key word.Key ∷ (b ++ (m ++ sign mark.Close ∷ []))) rest,
        append_assoc b (m ++ sign mark.Close ∷ []) rest,
        append_assoc m (sign mark.Close ∷ []) rest,
        field_complete a (key word.Key ∷ (b ++ (m ++ behind))) f g tt,
        fields,
        checks,
      ) refl
