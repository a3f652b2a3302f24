-- Trees in definitions, built and taken apart.
use Rattle.salt_ast.specs.declared.trees.Bound.{Bound}
use Rattle.salt_ast.specs.declared.trees.Bound.TheVariants as bound
use Rattle.salt_ast.specs.declared.trees.Expr.{Binary', Expr, IsNull', Lit, Not', end_of-Expr, more_of-Expr}
use Rattle.salt_ast.specs.declared.trees.Op.{Op}
use Rattle.salt_ast.specs.declared.trees.Scan.{Scan}
use Rattle.salt_ast.specs.declared.trees.Statement.{Statement}
use Rattle.salt_ast.specs.declared.trees.Statement.TheVariants as statement
use Rattle.salt_values.specs.declared.value.Value.TheVariants as value
use Rattle.std.specs.Prelude.{Bool, List, [], map, ℕ, ℤ, ◌++◌, ◌∷◌, option_to_list}

abbrev pub number : ℤ → Expr
number z = Lit (value.Int z)

abbrev pub letters : List ℕ → Expr
letters t = Lit (value.Text t)

abbrev pub null : Expr
null = Lit value.Null

abbrev pub negation : Expr → Expr
negation e = Not' tt (more_of-Expr e end_of-Expr)

-- whether an expression is NULL, or, negated, is not
abbrev pub null_test : Bool → Expr → Expr
null_test negated e = IsNull' tt (more_of-Expr e end_of-Expr) negated

abbrev pub operation : Op → Expr → Expr → Expr
operation o l r = Binary' o tt (more_of-Expr l end_of-Expr) tt (more_of-Expr r end_of-Expr)

abbrev pub bound_exprs : Bound → List Expr
bound_exprs bound.All = []
bound_exprs (bound.Key e) = e ∷ []
bound_exprs (bound.Between low high) = low ∷ high ∷ []

abbrev pub scan_exprs : Scan → List Expr
scan_exprs scan = bound_exprs scan.bound ++ option_to_list scan.filter

-- the expressions of a statement, in the order of its text
abbrev pub statement_exprs : Statement → List Expr
statement_exprs (statement.Insert table es) = es
statement_exprs (statement.Select what table scan) = scan_exprs scan
statement_exprs (statement.SelectInto column var table key) = key ∷ []
statement_exprs (statement.Update table sets scan) = map (λ s. s.value) sets ++ scan_exprs scan
statement_exprs (statement.Delete table scan) = scan_exprs scan
statement_exprs (statement.Ensure e) = e ∷ []
