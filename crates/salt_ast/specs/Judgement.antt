-- What is refused of tables and statements under the tables defined before: names that are not known, names that come
-- twice, and types.
use Rattle.salt_values.specs.declared.limits.TheConstants.{TABLES_MOST}
use Rattle.salt_ast.specs.Trees.{bound_exprs}
use Rattle.salt_ast.specs.Words.{first_in, is_among}
use Rattle.salt_ast.specs.TokenSpelling.{same_bytes}
use Rattle.std.specs.Bool.{then_some}
use Rattle.std.specs.Option.{option_or, option_map_or}
use Rattle.salt_ast.specs.declared.limit.LimitName.{LimitName}
use Rattle.salt_ast.specs.declared.limit.LimitName.TheVariants as limit
use Rattle.salt_ast.specs.declared.trees.ColType.{ColType}
use Rattle.salt_ast.specs.declared.trees.ColType.TheVariants as kind
use Rattle.salt_ast.specs.declared.trees.Expr.{Binary', Column, Expr, IsNull', Lit, Not', Variable, end_of-Expr, more_of-Expr}
use Rattle.salt_ast.specs.declared.trees.Field.{Field}
use Rattle.salt_ast.specs.declared.trees.Op.{Op}
use Rattle.salt_ast.specs.declared.trees.Op.TheVariants as op
use Rattle.salt_ast.specs.declared.trees.Scan.{Scan}
use Rattle.salt_ast.specs.declared.trees.Scope.{Scope}
use Rattle.salt_ast.specs.declared.trees.Set.{Set}
use Rattle.salt_ast.specs.declared.trees.Statement.{Statement}
use Rattle.salt_ast.specs.declared.trees.Statement.TheVariants as statement
use Rattle.salt_ast.specs.declared.trees.TableDef.{TableDef}
use Rattle.salt_ast.specs.declared.trees.What.{What}
use Rattle.salt_ast.specs.declared.trees.What.TheVariants as what
use Rattle.salt_values.specs.Value.{is_null}
use Rattle.salt_values.specs.declared.value.Value.{Value}
use Rattle.salt_values.specs.declared.value.Value.TheVariants as value
use Rattle.std.specs.List.{list_all}
use Rattle.std.specs.Prelude.{Bool, List, None, Option, Some, [], false, if◌then◌else◌, length, map, nat_le, not, true}
use Rattle.std.specs.Prelude.{option_and_then, option_map, ℕ, ◌&&◌, ◌++◌, ◌||◌, ◌∷◌}

-- A schema is the list of the tables defined before.

abbrev pub field_names : List Field → List (List ℕ)
field_names fs = map (λ f. f.name) fs

abbrev pub is_table : List TableDef → List ℕ → Bool
is_table [] n = false
is_table (d ∷ ds) n = if same_bytes n d.name then true else is_table ds n

-- the columns of the table of this name: none where it is not known
abbrev pub columns_of : List TableDef → List ℕ → List Field
columns_of [] n = []
columns_of (d ∷ ds) n = if same_bytes n d.name then d.columns else columns_of ds n

-- the parameters and variables that `:x` may name
abbrev pub bindings : Scope → List Field
bindings scope = scope.params ++ scope.vars

-- UNKNOWN: the first name in the text that is not known.

abbrev pub unknown_name : List Field → List ℕ → Option (List ℕ)
unknown_name fs n = then_some (not (is_among n (field_names fs))) n

abbrev pub unknown_table : List TableDef → List ℕ → Option (List ℕ)
unknown_table schema n = then_some (not (is_table schema n)) n

-- of an expression that may name these columns, and these parameters and variables
abbrev pub unknown_in_expr : (columns variables : List Field) → Expr → Option (List ℕ)
unknown_in_expr columns variables (Lit v) = None
unknown_in_expr columns variables (Column n) = unknown_name columns n
unknown_in_expr columns variables (Variable n) = unknown_name variables n
unknown_in_expr columns variables (Not' _ (more_of-Expr e end_of-Expr)) = unknown_in_expr columns variables e
unknown_in_expr columns variables (IsNull' _ (more_of-Expr e end_of-Expr) negated) = unknown_in_expr columns variables e
unknown_in_expr columns variables (Binary' o _ (more_of-Expr l end_of-Expr) _ (more_of-Expr r end_of-Expr)) =
    option_or (unknown_in_expr columns variables l) (unknown_in_expr columns variables r)

abbrev pub unknown_in_what : List Field → What → Option (List ℕ)
unknown_in_what columns (what.Columns ns) = first_in (unknown_name columns) ns
unknown_in_what columns (what.Sum n) = unknown_name columns n
unknown_in_what columns (what.Min n) = unknown_name columns n
unknown_in_what columns (what.Max n) = unknown_name columns n
unknown_in_what columns _ = None

-- no column stands in a key's bound
abbrev pub unknown_in_scan : (columns variables : List Field) → Scan → Option (List ℕ)
unknown_in_scan columns variables scan =
    option_or (first_in (unknown_in_expr [] variables) (bound_exprs scan.bound))
    (option_and_then (unknown_in_expr columns variables) scan.filter)

abbrev pub unknown_in_set : (columns variables : List Field) → Set → Option (List ℕ)
unknown_in_set columns variables set = option_or (unknown_name columns set.column) (unknown_in_expr columns variables set.value)

abbrev pub unknown_in_statement : List TableDef → Scope → Statement → Option (List ℕ)
unknown_in_statement schema scope (statement.Insert table es) =
    option_or (unknown_table schema table) (first_in (unknown_in_expr [] (bindings scope)) es)
unknown_in_statement schema scope (statement.Select w table scan) =
    option_or (unknown_in_what (columns_of schema table) w)
    (option_or (unknown_table schema table) (unknown_in_scan (columns_of schema table) (bindings scope) scan))
unknown_in_statement schema scope (statement.SelectInto column var table key) =
    option_or (unknown_name (columns_of schema table) column)
    (option_or (unknown_name scope.vars var)
    (option_or (unknown_table schema table) (unknown_in_expr [] (bindings scope) key)))
unknown_in_statement schema scope (statement.Update table sets scan) =
    option_or (unknown_table schema table)
    (option_or (first_in (unknown_in_set (columns_of schema table) (bindings scope)) sets)
    (unknown_in_scan (columns_of schema table) (bindings scope) scan))
unknown_in_statement schema scope (statement.Delete table scan) =
    option_or (unknown_table schema table) (unknown_in_scan (columns_of schema table) (bindings scope) scan)
unknown_in_statement schema scope (statement.Ensure e) = unknown_in_expr [] (bindings scope) e

-- a check names columns of its own table, and no parameter or variable
abbrev pub unknown_in_table : TableDef → Option (List ℕ)
unknown_in_table d = first_in (unknown_in_expr d.columns []) d.checks

-- EXISTS: the first name in the text that stands there, or is kept, already.

-- the first that is among those before it or these
abbrev pub doubled_name : List (List ℕ) → List (List ℕ) → Option (List ℕ)
doubled_name before [] = None
doubled_name before (n ∷ ns) = if is_among n before then Some n else doubled_name (n ∷ before) ns

-- no statement but UPDATE names what it changes twice
abbrev pub doubled_in_statement : Statement → Option (List ℕ)
doubled_in_statement (statement.Update table sets scan) = doubled_name [] (map (λ s. s.column) sets)
doubled_in_statement _ = None

abbrev pub doubled_in_table : List TableDef → TableDef → Option (List ℕ)
doubled_in_table schema d = option_or (then_some (is_table schema d.name) d.name) (doubled_name [] (field_names d.columns))

-- TYPE: what is asked of types, where each name is known.

-- what an expression gives: a value of a type, or a truth value
pub data Kind : Type 0 where
  values : ColType → Kind
  truths : Kind

abbrev pub is_same_type : ColType → ColType → Bool
is_same_type kind.Int kind.Int = true
is_same_type kind.Text kind.Text = true
is_same_type _ _ = false

abbrev pub is_same_kind : Kind → Kind → Bool
is_same_kind (values a) (values b) = is_same_type a b
is_same_kind truths truths = true
is_same_kind _ _ = false

abbrev pub is_of_kind : Kind → Option Kind → Bool
is_of_kind k o = option_map_or (is_same_kind k) o false

-- a value, and no truth value
abbrev pub is_value : Option Kind → Bool
is_value (Some (values t)) = true
is_value _ = false

abbrev pub field_named : List Field → List ℕ → Option Field
field_named [] n = None
field_named (f ∷ fs) n = if same_bytes n f.name then Some f else field_named fs n

abbrev pub type_named : List Field → List ℕ → Option ColType
type_named fields n = option_map (λ f. f.kind) (field_named fields n)

-- which two operands an operation takes, and what it gives

-- two values of one type
abbrev pub comparison_kind : Kind → Kind → Option Kind
comparison_kind (values a) (values b) = then_some (is_same_type a b) truths
comparison_kind _ _ = None

-- two operands of a kind, which it gives
abbrev pub closed_kind : Kind → Kind → Kind → Option Kind
closed_kind k l r = then_some (is_same_kind k l && is_same_kind k r) k

abbrev pub operation_kind : Op → Kind → Kind → Option Kind
operation_kind op.Or l r = closed_kind truths l r
operation_kind op.And l r = closed_kind truths l r
operation_kind op.Add l r = closed_kind (values kind.Int) l r
operation_kind op.Sub l r = closed_kind (values kind.Int) l r
operation_kind op.Join l r = closed_kind (values kind.Text) l r
operation_kind op.Mul l r = closed_kind (values kind.Int) l r
operation_kind _ l r = comparison_kind l r

-- NULL has no type of its own
abbrev pub value_type : Value → Option ColType
value_type (value.Int z) = Some kind.Int
value_type (value.Text t) = Some kind.Text
value_type value.Null = None

-- what an expression gives over these columns, and these parameters and variables: nothing where its types are wrong
abbrev pub expr_kind : (columns variables : List Field) → Expr → Option Kind
expr_kind columns variables (Lit v) = option_map values (value_type v)
expr_kind columns variables (Column n) = option_map values (type_named columns n)
expr_kind columns variables (Variable n) = option_map values (type_named variables n)
expr_kind columns variables (Not' _ (more_of-Expr e end_of-Expr)) =
    then_some (is_of_kind truths (expr_kind columns variables e)) truths
expr_kind columns variables (IsNull' _ (more_of-Expr e end_of-Expr) negated) =
    then_some (is_value (expr_kind columns variables e)) truths
expr_kind columns variables (Binary' o _ (more_of-Expr l end_of-Expr) _ (more_of-Expr r end_of-Expr)) =
    option_and_then (λ k. option_and_then (operation_kind o k) (expr_kind columns variables r)) (expr_kind columns variables l)

abbrev pub gives_truth : (columns variables : List Field) → Expr → Bool
gives_truth columns variables e = is_of_kind truths (expr_kind columns variables e)

-- it gives a value of the type, if there is one
abbrev pub gives_type : (columns variables : List Field) → Option ColType → Expr → Bool
gives_type columns variables None e = false
gives_type columns variables (Some t) e = is_of_kind (values t) (expr_kind columns variables e)

-- the type of the key, which is the first column
abbrev pub key_type : List Field → Option ColType
key_type [] = None
key_type (f ∷ fs) = Some f.kind

abbrev pub is_key : List Field → List ℕ → Bool
is_key [] n = false
is_key (f ∷ fs) n = same_bytes n f.name

-- NULLABLE: a column that is not declared so takes neither `null` nor an expression that names one that is.

abbrev pub is_nullable : List Field → List ℕ → Bool
is_nullable columns n = elim (field_named columns n) [ None ↦ false | Some f ↦ f.nullable ]

abbrev pub may_be_null : (columns : List Field) → Expr → Bool
may_be_null columns (Lit v) = is_null v
may_be_null columns (Column n) = is_nullable columns n
may_be_null columns (Variable n) = false
may_be_null columns (Not' _ (more_of-Expr e end_of-Expr)) = may_be_null columns e
may_be_null columns (IsNull' _ (more_of-Expr e end_of-Expr) negated) = may_be_null columns e
may_be_null columns (Binary' o _ (more_of-Expr l end_of-Expr) _ (more_of-Expr r end_of-Expr)) = may_be_null columns l || may_be_null columns r

abbrev pub is_null_literal : Expr → Bool
is_null_literal (Lit v) = is_null v
is_null_literal e = false

-- what the column takes: a value of its type, or NULL where it may hold it
abbrev pub takes : (columns variables : List Field) → Field → Expr → Bool
takes columns variables f e =
    (f.nullable || not (may_be_null columns e)) && (is_null_literal e || gives_type columns variables (Some f.kind) e)

-- what each column takes
abbrev pub are_row : (columns variables : List Field) → List Expr → Bool
are_row [] variables [] = true
are_row (f ∷ fs) variables (e ∷ es) = takes [] variables f e && are_row fs variables es
are_row fs variables es = false

-- a sum is one of numbers
abbrev pub is_typed_what : List Field → What → Bool
is_typed_what columns (what.Sum n) = is_of_kind (values kind.Int) (option_map values (type_named columns n))
is_typed_what columns _ = true

abbrev pub is_typed_filter : (columns variables : List Field) → Option Expr → Bool
is_typed_filter columns variables filter = option_map_or (gives_truth columns variables) filter true

abbrev pub is_typed_scan : (columns variables : List Field) → Scan → Bool
is_typed_scan columns variables scan =
    list_all (gives_type [] variables (key_type columns)) (bound_exprs scan.bound) && is_typed_filter columns variables scan.filter

-- no set is of the key
abbrev pub is_typed_set : (columns variables : List Field) → Set → Bool
is_typed_set columns variables set =
    not (is_key columns set.column) && option_map_or (λ f. takes columns variables f set.value) (field_named columns set.column) false

abbrev pub same_types : Option ColType → Option ColType → Bool
same_types (Some a) (Some b) = is_same_type a b
same_types _ _ = false

abbrev pub is_typed_statement : List TableDef → Scope → Statement → Bool
is_typed_statement schema scope (statement.Insert table es) = are_row (columns_of schema table) (bindings scope) es
is_typed_statement schema scope (statement.Select w table scan) =
    is_typed_what (columns_of schema table) w && is_typed_scan (columns_of schema table) (bindings scope) scan
is_typed_statement schema scope (statement.SelectInto column var table key) =
    same_types (type_named (columns_of schema table) column) (type_named scope.vars var)
    && not (is_nullable (columns_of schema table) column)
    && gives_type [] (bindings scope) (key_type (columns_of schema table)) key
is_typed_statement schema scope (statement.Update table sets scan) =
    list_all (is_typed_set (columns_of schema table) (bindings scope)) sets
    && is_typed_scan (columns_of schema table) (bindings scope) scan
is_typed_statement schema scope (statement.Delete table scan) = is_typed_scan (columns_of schema table) (bindings scope) scan
is_typed_statement schema scope (statement.Ensure e) = gives_truth [] (bindings scope) e

abbrev pub is_typed_table : TableDef → Bool
is_typed_table d = list_all (gives_truth d.columns []) d.checks

-- The judgement: each of these stands before the ones below it.

pub data Fault : Type 0 where
  unknown : List ℕ → Fault
  exists : List ℕ → Fault
  mistyped : Fault

abbrev pub first_fault : Option (List ℕ) → Option (List ℕ) → Bool → Option Fault
first_fault not_known doubled is_typed =
    option_or (option_map unknown not_known) (option_or (option_map exists doubled) (then_some (not is_typed) mistyped))

-- what is refused of a statement, whose program has these parameters and variables; a session's statement has none
unfoldable pub statement_fault : List TableDef → Scope → Statement → Option Fault
statement_fault schema scope st =
    first_fault (unknown_in_statement schema scope st) (doubled_in_statement st) (is_typed_statement schema scope st)

-- what is refused of a table
unfoldable pub table_fault : List TableDef → TableDef → Option Fault
table_fault schema d = first_fault (unknown_in_table d) (doubled_in_table schema d) (is_typed_table d)

-- the limit that a further table passes, which stands before its faults
abbrev pub kept_limit : List TableDef → Option LimitName
kept_limit schema = then_some (nat_le TABLES_MOST (length schema)) limit.Tables
