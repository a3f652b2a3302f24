-- The statements and tables that reading from left to right finds, whatever they pass.
use Rattle.salt_ast.specs.Trees.{null}
use Rattle.salt_ast.specs.declared.trees.Bound.TheVariants as bound
use Rattle.salt_ast.specs.declared.trees.Expr.{Expr}
use Rattle.salt_ast.specs.declared.trees.Field.{Field}
use Rattle.salt_ast.specs.declared.trees.Scan.{Scan}
use Rattle.salt_ast.specs.declared.trees.Set.{Set}
use Rattle.salt_ast.specs.declared.trees.Statement.{Statement}
use Rattle.salt_ast.specs.declared.trees.Statement.TheVariants as statement
use Rattle.salt_ast.specs.declared.trees.TableDef.{TableDef}
use Rattle.salt_ast.specs.declared.trees.What.{What}
use Rattle.salt_ast.specs.declared.trees.What.TheVariants as what
use Rattle.salt_parse.specs.Lists.{comma}
use Rattle.salt_parse.specs.Reading.{after, either}
use Rattle.salt_parse.specs.StatementReading.{is_into}
use Rattle.salt_parse.specs.TableReading.{field_comma, kind_at}
use Rattle.salt_parse.proofs.Trees.{TreeReader, conjunction_of, expression_of, sum_of}
use Rattle.salt_ast.specs.Scanning.{◌>>=◌}
use Rattle.salt_ast.specs.Symbols.{Symbols, key, name, sign}
use Rattle.salt_ast.specs.declared.keyword.Keyword.TheVariants as word
use Rattle.salt_ast.specs.declared.sign.Sign.TheVariants as mark
use Rattle.std.proofs.Common.{List, None, Option, Some, [], cond, false, length, suc, true, zero, ℕ, ◌++◌, ◌∷◌}

abbrev pub name_of : TreeReader (List ℕ)
name_of (name n ∷ ts) = Some (n, ts)
name_of _ = None

-- items before those that are found next
abbrev pub ahead : {A : Type 0} → List A → Option (List A × Symbols) → Option (List A × Symbols)
ahead front found = found >>= λ x. Some (front ++ x.0, x.1)

unfoldable pub following_of : {A : Type 0} → (Symbols → Option Symbols) → TreeReader A → ℕ → TreeReader (List A)
following_of separator item zero ts = either (separator ts) (Some ([], ts)) (λ us. None)
following_of separator item (suc room) ts =
    either (separator ts) (Some ([], ts)) (λ us. item us >>= λ x. ahead (x.0 ∷ []) (following_of separator item room x.1))

abbrev pub listed_of : {A : Type 0} → (Symbols → Option Symbols) → TreeReader A → TreeReader (List A)
listed_of separator item ts = item ts >>= λ x. ahead (x.0 ∷ []) (following_of separator item (length x.1) x.1)

abbrev pub and_of : TreeReader Expr → TreeReader (Option Expr)
and_of inner ts = either (after (key word.And) ts) (Some (None, ts)) (λ us. conjunction_of inner us >>= λ x. Some (Some x.0, x.1))

abbrev pub between_of : TreeReader Expr → TreeReader Scan
between_of inner ts =
    sum_of inner ts >>= λ low. after (key word.And) low.1 >>= λ us. sum_of inner us >>= λ high. and_of inner high.1 >>= λ w. Some
    (record { bound = bound.Between low.0 high.0; filter = w.0 }, w.1)

abbrev pub equal_of : TreeReader Expr → TreeReader Scan
equal_of inner ts =
    after (sign mark.Equal) ts >>= λ us. sum_of inner us >>= λ e. and_of inner e.1 >>= λ w. Some (record { bound = bound.Key e.0; filter = w.0 }, w.1)

abbrev pub bound_of : TreeReader Expr → TreeReader Scan
bound_of inner ts = either (after (key word.Between) ts) (equal_of inner ts) (between_of inner)

abbrev pub filter_of : TreeReader Expr → TreeReader Scan
filter_of inner ts = expression_of inner ts >>= λ x. Some (record { bound = bound.All; filter = Some x.0 }, x.1)

abbrev pub where_of : TreeReader Expr → TreeReader Scan
where_of inner ts = either (after (key word.Key) ts) (filter_of inner ts) (bound_of inner)

abbrev pub scan_of : TreeReader Expr → TreeReader Scan
scan_of inner ts = either (after (key word.Where) ts) (Some (record { bound = bound.All; filter = None }, ts)) (where_of inner)

abbrev pub value_of : TreeReader Expr → TreeReader Expr
value_of inner ts = either (after (key word.Null) ts) (expression_of inner ts) (λ us. Some (null, us))

abbrev pub values_of : TreeReader Expr → TreeReader (List Expr)
values_of inner = listed_of comma (value_of inner)

abbrev pub names_of : TreeReader (List (List ℕ))
names_of = listed_of comma name_of

abbrev pub set_of : TreeReader Expr → TreeReader Set
set_of inner ts = name_of ts >>= λ n. after (sign mark.Equal) n.1 >>= λ us. value_of inner us >>= λ e. Some (record { column = n.0; value = e.0 }, e.1)

abbrev pub sets_of : TreeReader Expr → TreeReader (List Set)
sets_of inner = listed_of comma (set_of inner)

abbrev pub enclosed_of : TreeReader (List ℕ)
enclosed_of ts = after (sign mark.Open) ts >>= λ us. name_of us >>= λ n. after (sign mark.Close) n.1 >>= λ vs. Some (n.0, vs)

abbrev pub count_of : TreeReader What
count_of ts = after (sign mark.Open) ts >>= λ us. after (sign mark.Star) us >>= λ vs. after (sign mark.Close) vs >>= λ ws. Some (what.Count, ws)

abbrev pub total_of : TreeReader What
total_of ts = enclosed_of ts >>= λ n. Some (what.Sum n.0, n.1)

abbrev pub least_of : TreeReader What
least_of ts = enclosed_of ts >>= λ n. Some (what.Min n.0, n.1)

abbrev pub largest_of : TreeReader What
largest_of ts = enclosed_of ts >>= λ n. Some (what.Max n.0, n.1)

abbrev pub columns_of : TreeReader What
columns_of ts = names_of ts >>= λ ns. Some (what.Columns ns.0, ns.1)

abbrev pub aggregate_of : TreeReader What
aggregate_of ts = either (after (key word.Sum) ts)
    (either (after (key word.Min) ts) (either (after (key word.Max) ts) (columns_of ts) largest_of) least_of) total_of

abbrev pub what_of : TreeReader What
what_of ts = either (after (sign mark.Star) ts) (either (after (key word.Count) ts) (aggregate_of ts) count_of) (λ us. Some (what.All, us))

abbrev pub insert_of : TreeReader Expr → TreeReader Statement
insert_of deeper ts =
    after (key word.Into) ts >>= λ us. name_of us >>= λ n. after (key word.Values) n.1 >>= λ vs. after
    (sign mark.Open) vs >>= λ ws. values_of deeper ws >>= λ es. after (sign mark.Close) es.1 >>= λ xs. Some (statement.Insert n.0 es.0, xs)

abbrev pub into_of : TreeReader (List ℕ × List ℕ)
into_of ts = name_of ts >>= λ c. after (key word.Into) c.1 >>= λ us. after (sign mark.Colon) us >>= λ vs. name_of vs >>= λ v. Some ((c.0, v.0), v.1)

abbrev pub only_key_of : TreeReader Expr → TreeReader Expr
only_key_of inner ts = after (key word.Where) ts >>= λ us. after (key word.Key) us >>= λ vs. after (sign mark.Equal) vs >>= λ ws. sum_of inner ws

abbrev pub select_into_of : TreeReader Expr → TreeReader Statement
select_into_of inner ts =
    into_of ts >>= λ c. after (key word.From) c.1 >>= λ us. name_of us >>= λ n. only_key_of inner n.1 >>= λ e. Some
    (statement.SelectInto c.0.0 c.0.1 n.0 e.0, e.1)

abbrev pub select_rows_of : TreeReader Expr → TreeReader Statement
select_rows_of inner ts =
    what_of ts >>= λ w. after (key word.From) w.1 >>= λ us. name_of us >>= λ n. scan_of inner n.1 >>= λ s. Some (statement.Select w.0 n.0 s.0, s.1)

abbrev pub select_of : TreeReader Expr → TreeReader Statement
select_of inner ts = cond (is_into ts) (select_into_of inner ts) (select_rows_of inner ts)

abbrev pub update_of : TreeReader Expr → TreeReader Statement
update_of inner ts = name_of ts >>= λ n. after (key word.Set) n.1 >>= λ us. sets_of inner us >>= λ sets. scan_of inner sets.1 >>= λ s. Some
    (statement.Update n.0 sets.0 s.0, s.1)

abbrev pub delete_of : TreeReader Expr → TreeReader Statement
delete_of inner ts = after (key word.From) ts >>= λ us. name_of us >>= λ n. scan_of inner n.1 >>= λ s. Some (statement.Delete n.0 s.0, s.1)

abbrev pub ensure_of : TreeReader Expr → TreeReader Statement
ensure_of inner ts = after (key word.Ensure) ts >>= λ us. expression_of inner us >>= λ e. Some (statement.Ensure e.0, e.1)

abbrev pub change_of : TreeReader Expr → TreeReader Statement
change_of inner ts = either (after (key word.Update) ts) (either (after (key word.Delete) ts) (ensure_of inner ts) (delete_of inner)) (update_of inner)

abbrev pub statement_of : TreeReader Expr → TreeReader Expr → TreeReader Statement
statement_of inner deeper ts = either (after (key word.Insert) ts) (either (after (key word.Select) ts) (change_of inner ts) (select_of inner))
    (insert_of deeper)

-- tables

abbrev pub field_of : TreeReader Field
field_of ts = name_of ts >>= λ n. kind_at n.1 >>= λ k. Some (record { name = n.0; kind = k.0; nullable = false }, k.1)

abbrev pub nullable_of : Field → TreeReader Field
nullable_of c ts = either (after (key word.Null) ts) (Some (c, ts)) (λ us. Some (record c { nullable = true }, us))

abbrev pub column_of : TreeReader Field
column_of ts = field_of ts >>= λ c. nullable_of c.0 c.1

abbrev pub fields_of : TreeReader (List Field)
fields_of ts = field_of ts >>= λ c. after (key word.Key) c.1 >>= λ us. ahead (c.0 ∷ []) (following_of field_comma column_of (length us) us)

abbrev pub check_of : TreeReader Expr → TreeReader Expr
check_of inner ts = after (key word.Check) ts >>= λ us. expression_of inner us

abbrev pub checks_of : TreeReader Expr → TreeReader (List Expr)
checks_of inner ts = following_of comma (check_of inner) (length ts) ts

abbrev pub definition_of : TreeReader Expr → TreeReader TableDef
definition_of inner ts =
    name_of ts >>= λ n. after (sign mark.Open) n.1 >>= λ us. fields_of us >>= λ cs. checks_of inner cs.1 >>= λ es. after
    (sign mark.Close) es.1 >>= λ vs. Some (record { name = n.0; columns = cs.0; checks = es.0 }, vs)

abbrev pub table_of : TreeReader Expr → TreeReader TableDef
table_of inner ts = after (key word.Create) ts >>= λ us. after (key word.Table) us >>= λ vs. definition_of inner vs
