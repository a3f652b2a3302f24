-- Limits, and the first that a tree's text passes.
use Rattle.salt_values.specs.declared.limits.TheConstants.{CHECKS_MOST, COLUMNS_MOST, DEPTH_MOST, NAME_MOST, TEXT_MOST}
use Rattle.salt_ast.specs.Trees.{statement_exprs}
use Rattle.salt_ast.specs.Words.{first_in}
use Rattle.std.specs.Bool.{then_some}
use Rattle.std.specs.Option.{option_or}
use Rattle.salt_ast.specs.declared.limit.LimitName.{LimitName}
use Rattle.salt_ast.specs.declared.limit.LimitName.TheVariants as limit
use Rattle.salt_ast.specs.declared.trees.Bound.{Bound}
use Rattle.salt_ast.specs.declared.trees.Bound.TheVariants as bound
use Rattle.salt_ast.specs.declared.trees.Expr.{Binary', Column, Expr, IsNull', Lit, Not', Variable, end_of-Expr, more_of-Expr}
use Rattle.salt_ast.specs.declared.trees.Scan.{Scan}
use Rattle.salt_ast.specs.declared.trees.Set.{Set}
use Rattle.salt_ast.specs.declared.trees.Statement.{Statement}
use Rattle.salt_ast.specs.declared.trees.Statement.TheVariants as statement
use Rattle.salt_ast.specs.declared.trees.TableDef.{TableDef}
use Rattle.salt_ast.specs.declared.trees.What.{What}
use Rattle.salt_ast.specs.declared.trees.What.TheVariants as what
use Rattle.salt_values.specs.declared.value.Value.{Value}
use Rattle.salt_values.specs.declared.value.Value.TheVariants as value
use Rattle.std.specs.List.{list_any}
use Rattle.std.specs.Prelude.{Bool, List, None, Option, Some, [], codes, length, max, nat_lt, negsuc, pos, suc, zero, ℕ, ◌+◌, ◌-◌, ◌^◌, ◌∷◌, option_and_then}

abbrev pub limit_word : LimitName → List ℕ
limit_word limit.Session = codes "session"
limit_word limit.Name = codes "name"
limit_word limit.Number = codes "number"
limit_word limit.Text = codes "text"
limit_word limit.Tables = codes "tables"
limit_word limit.Columns = codes "columns"
limit_word limit.Checks = codes "checks"
limit_word limit.Programs = codes "programs"
limit_word limit.Parts = codes "parts"
limit_word limit.Retry = codes "retry"
limit_word limit.Statements = codes "statements"
limit_word limit.Parameters = codes "parameters"
limit_word limit.Variables = codes "variables"
limit_word limit.Depth = codes "depth"
limit_word limit.Crash = codes "crash"
limit_word limit.Pick = codes "pick"
limit_word limit.Pairs = codes "pairs"
limit_word limit.Net = codes "net"
limit_word limit.Act = codes "act"
limit_word limit.Bases = codes "bases"

-- the limit that a number above `most` passes
abbrev pub above : ℕ → LimitName → ℕ → Option LimitName
above most l n = then_some (nat_lt most n) l

-- the first limit that a list of at most `room` items passes; a further item passes the list's where it begins
abbrev pub passed_in_list : {A : Type 0} → ℕ → LimitName → (A → Option LimitName) → List A → Option LimitName
passed_in_list room l passed [] = None
passed_in_list zero l passed (x ∷ xs) = Some l
passed_in_list (suc room) l passed (x ∷ xs) = option_or (passed x) (passed_in_list room l passed xs)

-- The first limit that is passed in the order of the text, but for the depth.

abbrev pub name_passed : List ℕ → Option LimitName
name_passed n = above NAME_MOST limit.Name (length n)

-- a number may be one more behind a minus sign
abbrev pub value_passed : Value → Option LimitName
value_passed (value.Int (pos n)) = above (2 ^ 63 - 1) limit.Number n
value_passed (value.Int (negsuc n)) = above (2 ^ 63) limit.Number (n + 1)
value_passed (value.Text t) = above TEXT_MOST limit.Text (length t)
value_passed value.Null = None

abbrev pub expr_passed : Expr → Option LimitName
expr_passed (Lit v) = value_passed v
expr_passed (Column n) = name_passed n
expr_passed (Variable n) = name_passed n
expr_passed (Not' _ (more_of-Expr e end_of-Expr)) = expr_passed e
expr_passed (IsNull' _ (more_of-Expr e end_of-Expr) negated) = expr_passed e
expr_passed (Binary' o _ (more_of-Expr l end_of-Expr) _ (more_of-Expr r end_of-Expr)) =
    option_or (expr_passed l) (expr_passed r)

abbrev pub what_passed : What → Option LimitName
what_passed (what.Columns ns) = first_in name_passed ns
what_passed (what.Sum n) = name_passed n
what_passed (what.Min n) = name_passed n
what_passed (what.Max n) = name_passed n
what_passed _ = None

abbrev pub bound_passed : Bound → Option LimitName
bound_passed bound.All = None
bound_passed (bound.Key e) = expr_passed e
bound_passed (bound.Between low high) = option_or (expr_passed low) (expr_passed high)

abbrev pub scan_passed : Scan → Option LimitName
scan_passed scan = option_or (bound_passed scan.bound) (option_and_then expr_passed scan.filter)

abbrev pub set_passed : Set → Option LimitName
set_passed set = option_or (name_passed set.column) (expr_passed set.value)

abbrev pub statement_passed : Statement → Option LimitName
statement_passed (statement.Insert table es) = option_or (name_passed table) (first_in expr_passed es)
statement_passed (statement.Select w table scan) = option_or (what_passed w) (option_or (name_passed table) (scan_passed scan))
statement_passed (statement.SelectInto column var table key) =
    option_or (name_passed column) (option_or (name_passed var) (option_or (name_passed table) (expr_passed key)))
statement_passed (statement.Update table sets scan) = option_or (name_passed table) (option_or (first_in set_passed sets) (scan_passed scan))
statement_passed (statement.Delete table scan) = option_or (name_passed table) (scan_passed scan)
statement_passed (statement.Ensure e) = expr_passed e

abbrev pub table_passed : TableDef → Option LimitName
table_passed d =
    option_or (name_passed d.name)
    (option_or (passed_in_list COLUMNS_MOST limit.Columns (λ f. name_passed f.name) d.columns) (passed_in_list CHECKS_MOST limit.Checks expr_passed d.checks))

-- The depth, which comes after all other limits of a text.

-- a literal, a column, a parameter or variable is 1 high
abbrev pub height : Expr → ℕ
height (Not' _ (more_of-Expr e end_of-Expr)) = suc (height e)
height (IsNull' _ (more_of-Expr e end_of-Expr) negated) = suc (height e)
height (Binary' o _ (more_of-Expr l end_of-Expr) _ (more_of-Expr r end_of-Expr)) = suc (max (height l) (height r))
height e = 1

abbrev pub is_high : Expr → Bool
is_high e = nat_lt DEPTH_MOST (height e)

abbrev pub height_passed : List Expr → Option LimitName
height_passed es = then_some (list_any is_high es) limit.Depth

-- the first limit that a statement passes by its tree
unfoldable pub statement_limit : Statement → Option LimitName
statement_limit st = option_or (statement_passed st) (height_passed (statement_exprs st))

-- the first limit that a table passes by its tree
unfoldable pub table_limit : TableDef → Option LimitName
table_limit d = option_or (table_passed d) (height_passed d.checks)
