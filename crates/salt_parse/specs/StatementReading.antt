-- Reading statements from left to right, with what they pass.
use Rattle.salt_ast.specs.Trees.{null}
use Rattle.salt_ast.specs.declared.trees.Bound.TheVariants as bound
use Rattle.salt_ast.specs.declared.trees.Expr.{Expr}
use Rattle.salt_ast.specs.declared.trees.Scan.{Scan}
use Rattle.salt_ast.specs.declared.trees.Set.{Set}
use Rattle.salt_ast.specs.declared.trees.Statement.{Statement}
use Rattle.salt_ast.specs.declared.trees.Statement.TheVariants as statement
use Rattle.salt_ast.specs.declared.trees.What.{What}
use Rattle.salt_ast.specs.declared.trees.What.TheVariants as what
use Rattle.salt_parse.specs.Flags.{BuiltTree, kept_name}
use Rattle.salt_parse.specs.Lists.{comma, listed_at}
use Rattle.salt_parse.specs.Reading.{Reader, after, conjunction_at, either, expression_at, is_same, name_flags, sum_at, within_at}
use Rattle.salt_ast.specs.Scanning.{◌>>=◌}
use Rattle.salt_ast.specs.Symbols.{Symbols, key, name, sign}
use Rattle.salt_ast.specs.declared.keyword.Keyword.TheVariants as word
use Rattle.salt_ast.specs.declared.sign.Sign.TheVariants as mark
use Rattle.std.specs.Prelude.{Bool, List, None, Option, Some, false, if◌then◌else◌, ℕ, ◌∷◌}

-- a name, while no limit is passed
abbrev pub name_at : Reader (List ℕ)
name_at f (name n ∷ ts) = Some (kept_name (name_flags n f) n, name_flags n f, ts)
name_at f _ = None

-- the tree of what was built
abbrev pub tree_at : Reader BuiltTree → Reader Expr
tree_at read f ts = read f ts >>= λ x. Some (x.0.tree, x.1, x.2)

-- `and` and a filter, or nothing
abbrev pub and_at : Reader BuiltTree → Reader (Option Expr)
and_at inner f ts = either (after (key word.And) ts) (Some (None, f, ts)) (λ us. tree_at (conjunction_at inner) f us >>= λ x.
    Some (Some x.0, x.1, x.2))

-- what stands behind `where key between`
abbrev pub between_at : Reader BuiltTree → Reader Scan
between_at inner f ts =
    tree_at (sum_at inner) f ts >>= λ low. after (key word.And) low.2 >>= λ us. tree_at (sum_at inner) low.1 us >>= λ high.
    and_at inner high.1 high.2 >>= λ w. Some (record { bound = bound.Between low.0 high.0; filter = w.0 }, w.1, w.2)

-- what stands behind `where key`, where it is no `between`
abbrev pub equal_at : Reader BuiltTree → Reader Scan
equal_at inner f ts =
    after (sign mark.Equal) ts >>= λ us. tree_at (sum_at inner) f us >>= λ e. and_at inner e.1 e.2 >>= λ w.
    Some (record { bound = bound.Key e.0; filter = w.0 }, w.1, w.2)

-- what stands behind `where key`
abbrev pub bound_at : Reader BuiltTree → Reader Scan
bound_at inner f ts = either (after (key word.Between) ts) (equal_at inner f ts) (between_at inner f)

-- a filter alone
abbrev pub filter_at : Reader BuiltTree → Reader Scan
filter_at inner f ts = tree_at (expression_at inner) f ts >>= λ x. Some (record { bound = bound.All; filter = Some x.0 }, x.1, x.2)

-- what stands behind `where`
abbrev pub where_at : Reader BuiltTree → Reader Scan
where_at inner f ts = either (after (key word.Key) ts) (filter_at inner f ts) (bound_at inner f)

abbrev pub scan_at : Reader BuiltTree → Reader Scan
scan_at inner f ts = either (after (key word.Where) ts) (Some (record { bound = bound.All; filter = None }, f, ts)) (where_at inner f)

-- what a column takes: an expression, or `null`
abbrev pub value_at : Reader BuiltTree → Reader Expr
value_at inner f ts = either (after (key word.Null) ts) (tree_at (expression_at inner) f ts) (λ us. Some (null, f, us))

abbrev pub values_at : Reader BuiltTree → Reader (List Expr)
values_at inner = listed_at comma (λ n. value_at inner)

abbrev pub names_at : Reader (List (List ℕ))
names_at = listed_at comma (λ n. name_at)

abbrev pub set_at : Reader BuiltTree → Reader Set
set_at inner f ts =
    name_at f ts >>= λ n. after (sign mark.Equal) n.2 >>= λ us. value_at inner n.1 us >>= λ e.
    Some (record { column = n.0; value = e.0 }, e.1, e.2)

abbrev pub sets_at : Reader BuiltTree → Reader (List Set)
sets_at inner = listed_at comma (λ n. set_at inner)

-- a name in parentheses
abbrev pub enclosed_at : Reader (List ℕ)
enclosed_at f ts = after (sign mark.Open) ts >>= λ us. name_at f us >>= λ n. after (sign mark.Close) n.2 >>= λ vs. Some (n.0, n.1, vs)

-- what stands behind `count`
abbrev pub count_at : Reader What
count_at f ts = after (sign mark.Open) ts >>= λ us. after (sign mark.Star) us >>= λ vs. after (sign mark.Close) vs >>= λ ws. Some (what.Count, f, ws)

abbrev pub sum_of_at : Reader What
sum_of_at f ts = enclosed_at f ts >>= λ n. Some (what.Sum n.0, n.1, n.2)

abbrev pub min_of_at : Reader What
min_of_at f ts = enclosed_at f ts >>= λ n. Some (what.Min n.0, n.1, n.2)

abbrev pub max_of_at : Reader What
max_of_at f ts = enclosed_at f ts >>= λ n. Some (what.Max n.0, n.1, n.2)

abbrev pub columns_at : Reader What
columns_at f ts = names_at f ts >>= λ ns. Some (what.Columns ns.0, ns.1, ns.2)

abbrev pub aggregate_at : Reader What
aggregate_at f ts =
    either (after (key word.Sum) ts) (either (after (key word.Min) ts)
    (either (after (key word.Max) ts) (columns_at f ts) (max_of_at f)) (min_of_at f)) (sum_of_at f)

abbrev pub what_at : Reader What
what_at f ts = either (after (sign mark.Star) ts) (either (after (key word.Count) ts) (aggregate_at f ts) (count_at f)) (λ us. Some (what.All, f, us))

-- what stands behind `insert`
abbrev pub insert_at : Reader BuiltTree → Reader Statement
insert_at deeper f ts =
    after (key word.Into) ts >>= λ us. name_at f us >>= λ n. after (key word.Values) n.2 >>= λ vs. after (sign mark.Open) vs >>= λ ws.
    values_at deeper n.1 ws >>= λ es. after (sign mark.Close) es.2 >>= λ xs. Some (statement.Insert n.0 es.0, es.1, xs)

-- whether a name and `into` come next
abbrev pub is_into : Symbols → Bool
is_into (name n ∷ t ∷ ts) = is_same t (key word.Into)
is_into _ = false

-- the names behind `select` up to `from`, where `into` stands between them
abbrev pub into_at : Reader (List ℕ × List ℕ)
into_at f ts =
    name_at f ts >>= λ c. after (key word.Into) c.2 >>= λ us. after (sign mark.Colon) us >>= λ vs. name_at c.1 vs >>= λ v. Some ((c.0, v.0), v.1, v.2)

-- a key alone, behind a table's name
abbrev pub only_key_at : Reader BuiltTree → Reader Expr
only_key_at inner f ts =
    after (key word.Where) ts >>= λ us. after (key word.Key) us >>= λ vs. after (sign mark.Equal) vs >>= λ ws. tree_at (sum_at inner) f ws

abbrev pub select_into_at : Reader BuiltTree → Reader Statement
select_into_at inner f ts =
    into_at f ts >>= λ c. after (key word.From) c.2 >>= λ us. name_at c.1 us >>= λ n. only_key_at inner n.1 n.2 >>= λ e.
    Some (statement.SelectInto c.0.0 c.0.1 n.0 e.0, e.1, e.2)

abbrev pub select_rows_at : Reader BuiltTree → Reader Statement
select_rows_at inner f ts =
    what_at f ts >>= λ w. after (key word.From) w.2 >>= λ us. name_at w.1 us >>= λ n. scan_at inner n.1 n.2 >>= λ s.
    Some (statement.Select w.0 n.0 s.0, s.1, s.2)

-- what stands behind `select`
abbrev pub select_at : Reader BuiltTree → Reader Statement
select_at inner f ts = if is_into ts then select_into_at inner f ts else select_rows_at inner f ts

-- what stands behind `update`
abbrev pub update_at : Reader BuiltTree → Reader Statement
update_at inner f ts =
    name_at f ts >>= λ n. after (key word.Set) n.2 >>= λ us. sets_at inner n.1 us >>= λ sets. scan_at inner sets.1 sets.2 >>= λ s.
    Some (statement.Update n.0 sets.0 s.0, s.1, s.2)

-- what stands behind `delete`
abbrev pub delete_at : Reader BuiltTree → Reader Statement
delete_at inner f ts =
    after (key word.From) ts >>= λ us. name_at f us >>= λ n. scan_at inner n.1 n.2 >>= λ s. Some (statement.Delete n.0 s.0, s.1, s.2)

-- `ensure` and what stands behind it
abbrev pub ensure_at : Reader BuiltTree → Reader Statement
ensure_at inner f ts =
    after (key word.Ensure) ts >>= λ us. tree_at (expression_at inner) f us >>= λ e. Some (statement.Ensure e.0, e.1, e.2)

abbrev pub change_at : Reader BuiltTree → Reader Statement
change_at inner f ts = either (after (key word.Update) ts)
    (either (after (key word.Delete) ts) (ensure_at inner f ts) (delete_at inner f)) (update_at inner f)

unfoldable pub statement_at : Reader BuiltTree → Reader BuiltTree → Reader Statement
statement_at inner deeper f ts =
    either (after (key word.Insert) ts) (either (after (key word.Select) ts) (change_at inner f ts) (select_at inner f)) (insert_at deeper f)

-- a whole statement, with room for so many parentheses in its expressions, and for so many in those of INSERT
abbrev pub statement_within : ℕ → ℕ → Reader Statement
statement_within room inside = statement_at (within_at room) (within_at inside)
