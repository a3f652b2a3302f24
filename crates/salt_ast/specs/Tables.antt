-- Which rows of symbols spell which table.
use Rattle.salt_ast.specs.Grammar.{Expression}
use Rattle.salt_ast.specs.Statements.{Following}
use Rattle.salt_ast.specs.declared.trees.ColType.TheVariants as kind
use Rattle.salt_ast.specs.declared.trees.Expr.{Expr}
use Rattle.salt_ast.specs.declared.trees.Field.{Field}
use Rattle.salt_ast.specs.declared.trees.TableDef.{TableDef}
use Rattle.salt_ast.specs.Symbols.{Symbols, key, name, sign}
use Rattle.salt_ast.specs.declared.keyword.Keyword.TheVariants as word
use Rattle.salt_ast.specs.declared.sign.Sign.TheVariants as mark
use Rattle.std.specs.Prelude.{List, [], false, true, ℕ, ◌++◌, ◌∷◌}

-- a name and a type
pub data IsField : Symbols → Field → Type 0 where
  int_field : {n : List ℕ} → IsField (name n ∷ key word.Int ∷ []) (record { name = n; kind = kind.Int; nullable = false })
  text_field : {n : List ℕ} → IsField (name n ∷ key word.Text ∷ []) (record { name = n; kind = kind.Text; nullable = false })

-- a column that is no key: a name and a type, and "null" where it may hold NULL
pub data IsColumn : Symbols → Field → Type 0 where
  is_plain : {ts : Symbols} {f : Field} → IsField ts f → IsColumn ts f
  is_nullable : {ts : Symbols} {f : Field} → IsField ts f → IsColumn (ts ++ key word.Null ∷ []) (record f { nullable = true })

-- "check" expression
pub data IsCheck (Inner : Symbols → Expr → Type 0) : Symbols → Expr → Type 0 where
  is_check : {ts : Symbols} {e : Expr} → Expression Inner ts e → IsCheck Inner (key word.Check ∷ ts) e

-- a table, where `Inner` stands in the parentheses of its checks; the first column is the key
pub data IsTable (Inner : Symbols → Expr → Type 0) : Symbols → TableDef → Type 0 where
  is_table : {t : List ℕ} {a b c : Symbols} {f : Field} {fs : List Field} {es : List Expr} →
      IsField a f → Following IsColumn b fs → Following (IsCheck Inner) c es →
      IsTable Inner
      (key word.Create ∷ key word.Table ∷ name t ∷ sign mark.Open ∷ (a ++ key word.Key ∷ (b ++ (c ++ sign mark.Close ∷ []))))
      (record { name = t; columns = f ∷ fs; checks = es })
