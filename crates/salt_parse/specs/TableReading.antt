-- Reading tables from left to right, with what they pass.
use Rattle.salt_ast.specs.declared.limit.LimitName.TheVariants as limit
use Rattle.salt_ast.specs.declared.trees.ColType.{ColType}
use Rattle.salt_ast.specs.declared.trees.ColType.TheVariants as kind
use Rattle.salt_ast.specs.declared.trees.Expr.{Expr}
use Rattle.salt_ast.specs.declared.trees.Field.{Field}
use Rattle.salt_ast.specs.declared.trees.TableDef.{TableDef}
use Rattle.salt_parse.specs.Flags.{BuiltTree}
use Rattle.salt_parse.specs.Lists.{comma, counted, counted_at, following_at, with_front}
use Rattle.salt_parse.specs.Reading.{Reader, after, either, expression_at, within_at}
use Rattle.salt_parse.specs.StatementReading.{name_at, tree_at}
use Rattle.salt_ast.specs.Scanning.{◌>>=◌}
use Rattle.salt_ast.specs.Symbols.{Symbols, key, sign}
use Rattle.salt_ast.specs.declared.keyword.Keyword.TheVariants as word
use Rattle.salt_ast.specs.declared.sign.Sign.TheVariants as mark
use Rattle.salt_values.specs.declared.limits.TheConstants.{CHECKS_MOST, COLUMNS_MOST}
use Rattle.std.specs.Prelude.{List, None, Option, Some, [], false, length, true, ℕ, ◌∷◌}

-- a column's type, and what stands behind it
abbrev pub kind_at : Symbols → Option (ColType × Symbols)
kind_at ts = either (after (key word.Int) ts) (after (key word.Text) ts >>= λ us. Some (kind.Text, us)) (λ us. Some (kind.Int, us))

abbrev pub field_at : Reader Field
field_at f ts = name_at f ts >>= λ n. kind_at n.2 >>= λ k. Some (record { name = n.0; kind = k.0; nullable = false }, n.1, k.1)

-- a column that may hold NULL, or not
abbrev pub nullable_at : Field → Reader Field
nullable_at c f ts = either (after (key word.Null) ts) (Some (c, f, ts)) (λ us. Some (record c { nullable = true }, f, us))

-- a column that is no key
abbrev pub plain_column_at : Reader Field
plain_column_at f ts = field_at f ts >>= λ c. nullable_at c.0 c.1 c.2

-- the column that stands behind so many others
abbrev pub further_column_at : ℕ → Reader Field
further_column_at = counted_at COLUMNS_MOST limit.Columns plain_column_at

-- what stands behind a comma, where it is no check
abbrev pub field_comma : Symbols → Option Symbols
field_comma ts = comma ts >>= λ us. either (after (key word.Check) us) (Some us) (λ vs. None)

-- the key's column and further ones
abbrev pub fields_at : Reader (List Field)
fields_at f ts =
    field_at f ts >>= λ c. after (key word.Key) c.2 >>= λ us. with_front (c.0 ∷ []) (following_at field_comma further_column_at 1 (length us) c.1 us)

-- the check that stands behind so many others
abbrev pub check_at : Reader BuiltTree → ℕ → Reader Expr
check_at inner n f ts = after (key word.Check) ts >>= λ us. tree_at (expression_at inner) (counted CHECKS_MOST limit.Checks n f) us

abbrev pub checks_at : Reader BuiltTree → Reader (List Expr)
checks_at inner f ts = following_at comma (check_at inner) 0 (length ts) f ts

-- what stands behind `create table`
abbrev pub definition_at : Reader BuiltTree → Reader TableDef
definition_at inner f ts =
    name_at f ts >>= λ n. after (sign mark.Open) n.2 >>= λ us. fields_at n.1 us >>= λ cs. checks_at inner cs.1 cs.2 >>= λ es.
    after (sign mark.Close) es.2 >>= λ vs. Some (record { name = n.0; columns = cs.0; checks = es.0 }, es.1, vs)

unfoldable pub table_at : Reader BuiltTree → Reader TableDef
table_at inner f ts = after (key word.Create) ts >>= λ us. after (key word.Table) us >>= λ vs. definition_at inner f vs

-- a whole table, with room for so many parentheses in its checks
abbrev pub table_within : ℕ → ℕ → Reader TableDef
table_within room inside = table_at (within_at inside)
