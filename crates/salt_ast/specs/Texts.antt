-- Canonical texts of trees.
use Rattle.salt_ast.specs.Operators.{op_text}
use Rattle.salt_ast.specs.declared.trees.Bound.{Bound}
use Rattle.salt_ast.specs.declared.trees.Bound.TheVariants as bound
use Rattle.salt_ast.specs.declared.trees.ColType.{ColType}
use Rattle.salt_ast.specs.declared.trees.ColType.TheVariants as kind
use Rattle.salt_ast.specs.declared.trees.Expr.{Binary', Column, Expr, IsNull', Lit, Not', Variable, end_of-Expr, more_of-Expr}
use Rattle.salt_ast.specs.declared.trees.Field.{Field}
use Rattle.salt_ast.specs.declared.trees.Scan.{Scan}
use Rattle.salt_ast.specs.declared.trees.Set.{Set}
use Rattle.salt_ast.specs.declared.trees.Statement.{Statement}
use Rattle.salt_ast.specs.declared.trees.Statement.TheVariants as statement
use Rattle.salt_ast.specs.declared.trees.TableDef.{TableDef}
use Rattle.salt_ast.specs.declared.trees.What.{What}
use Rattle.salt_ast.specs.declared.trees.What.TheVariants as what
use Rattle.salt_ast.specs.Pieces.{quoted}
use Rattle.salt_values.specs.declared.value.Value.{Value}
use Rattle.salt_values.specs.declared.value.Value.TheVariants as value
use Rattle.std.specs.Fmt.{signed_decimal}
use Rattle.std.specs.Prelude.{Bool, List, Option, [], codes, false, true, ℕ, ◌++◌, ◌∷◌}
use Rattle.std.specs.Option.{option_map_or}

-- each with these bytes before it
abbrev pub preceded : {A : Type 0} → List ℕ → (A → List ℕ) → List A → List ℕ
preceded before text [] = []
preceded before text (x ∷ xs) = before ++ (text x ++ preceded before text xs)

-- one behind the other, with commas between them
abbrev pub between_commas : {A : Type 0} → (A → List ℕ) → List A → List ℕ
between_commas text [] = []
between_commas text (x ∷ xs) = text x ++ preceded (codes ", ") text xs

-- a quote in a text is doubled
abbrev pub value_text : Value → List ℕ
value_text (value.Int z) = signed_decimal z
value_text (value.Text t) = quoted t
value_text value.Null = codes "null"

-- what stands behind the operand of a test for NULL
abbrev pub null_test_text : (negated : Bool) → List ℕ
null_test_text false = codes " is null"
null_test_text true = codes " is not null"

-- each operation in parentheses
abbrev pub expr_text : Expr → List ℕ
expr_text (Lit v) = value_text v
expr_text (Column n) = n
expr_text (Variable n) = codes ":" ++ n
expr_text (Not' _ (more_of-Expr e end_of-Expr)) = codes "(not " ++ (expr_text e ++ codes ")")
expr_text (IsNull' _ (more_of-Expr e end_of-Expr) negated) = codes "(" ++ (expr_text e ++ (null_test_text negated ++ codes ")"))
expr_text (Binary' o _ (more_of-Expr l end_of-Expr) _ (more_of-Expr r end_of-Expr)) =
    codes "(" ++ (expr_text l ++ (codes " " ++ (op_text o ++ (codes " " ++ (expr_text r ++ codes ")")))))

abbrev pub name_text : List ℕ → List ℕ
name_text n = n

abbrev pub what_text : What → List ℕ
what_text what.All = codes "*"
what_text (what.Columns ns) = between_commas name_text ns
what_text what.Count = codes "count(*)"
what_text (what.Sum n) = codes "sum(" ++ (n ++ codes ")")
what_text (what.Min n) = codes "min(" ++ (n ++ codes ")")
what_text (what.Max n) = codes "max(" ++ (n ++ codes ")")

-- a filter, if there is one, behind this word
abbrev pub filter_text : List ℕ → Option Expr → List ℕ
filter_text word filter = option_map_or (λ e. word ++ expr_text e) filter []

abbrev pub bound_text : Bound → Option Expr → List ℕ
bound_text bound.All filter = filter_text (codes " where ") filter
bound_text (bound.Key e) filter =
    codes " where key = " ++ (expr_text e ++ filter_text (codes " and ") filter)
bound_text (bound.Between low high) filter =
    codes " where key between " ++ (expr_text low ++ (codes " and " ++ (expr_text high ++ filter_text (codes " and ") filter)))

abbrev pub scan_text : Scan → List ℕ
scan_text scan = bound_text scan.bound scan.filter

abbrev pub set_text : Set → List ℕ
set_text set = set.column ++ (codes " = " ++ expr_text set.value)

abbrev pub statement_text : Statement → List ℕ
statement_text (statement.Insert table es) =
    codes "insert into " ++ (table ++ (codes " values (" ++ (between_commas expr_text es ++ codes ")")))
statement_text (statement.Select w table scan) =
    codes "select " ++ (what_text w ++ (codes " from " ++ (table ++ scan_text scan)))
statement_text (statement.SelectInto column var table key) =
    codes "select " ++ (column ++ (codes " into :" ++ (var ++ (codes " from " ++ (table ++ (codes " where key = " ++ expr_text key))))))
statement_text (statement.Update table sets scan) =
    codes "update " ++ (table ++ (codes " set " ++ (between_commas set_text sets ++ scan_text scan)))
statement_text (statement.Delete table scan) = codes "delete from " ++ (table ++ scan_text scan)
statement_text (statement.Ensure e) = codes "ensure " ++ expr_text e

abbrev pub type_text : ColType → List ℕ
type_text kind.Int = codes "int"
type_text kind.Text = codes "text"

-- what stands behind the type of a column that may hold NULL
abbrev pub null_text : (nullable : Bool) → List ℕ
null_text false = []
null_text true = codes " null"

abbrev pub field_text : Field → List ℕ
field_text f = f.name ++ (codes " " ++ (type_text f.kind ++ null_text f.nullable))

-- the first column is the key
abbrev pub columns_text : List Field → List ℕ
columns_text [] = []
columns_text (f ∷ fs) = field_text f ++ (codes " key" ++ preceded (codes ", ") field_text fs)

abbrev pub table_text : TableDef → List ℕ
table_text d =
    codes "create table " ++ (d.name ++ (codes " (" ++ (columns_text d.columns ++ (preceded (codes ", check ") expr_text d.checks ++ codes ")"))))
