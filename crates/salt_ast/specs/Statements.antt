-- Which rows of symbols spell which statement.
use Rattle.salt_ast.specs.Grammar.{Conjunction, Expression, Sum}
use Rattle.salt_ast.specs.declared.trees.Bound.TheVariants as bound
use Rattle.salt_ast.specs.declared.trees.Expr.{Expr, Lit}
use Rattle.salt_ast.specs.declared.trees.Scan.{Scan}
use Rattle.salt_ast.specs.declared.trees.Set.{Set}
use Rattle.salt_ast.specs.declared.trees.Statement.{Statement}
use Rattle.salt_ast.specs.declared.trees.Statement.TheVariants as statement
use Rattle.salt_ast.specs.declared.trees.What.{What}
use Rattle.salt_ast.specs.declared.trees.What.TheVariants as what
use Rattle.salt_ast.specs.Symbols.{Symbols, key, name, sign}
use Rattle.salt_ast.specs.declared.keyword.Keyword.TheVariants as word
use Rattle.salt_ast.specs.declared.sign.Sign.{Sign}
use Rattle.salt_ast.specs.declared.sign.Sign.TheVariants as mark
use Rattle.salt_values.specs.declared.value.Value.TheVariants as value
use Rattle.std.specs.Prelude.{List, None, Option, Some, [], ℕ, ◌++◌, ◌∷◌}

-- {separator Item}
pub data FollowingBy (separator : Sign) {A : Type 0} (Item : Symbols → A → Type 0) : Symbols → List A → Type 0 where
  no_more : FollowingBy separator Item [] []
  one_more : {a b : Symbols} {x : A} {xs : List A} → Item a x → FollowingBy separator Item b xs →
      FollowingBy separator Item (sign separator ∷ (a ++ b)) (x ∷ xs)

-- Item {separator Item}
pub data ListedBy (separator : Sign) {A : Type 0} (Item : Symbols → A → Type 0) : Symbols → List A → Type 0 where
  items : {a b : Symbols} {x : A} {xs : List A} → Item a x → FollowingBy separator Item b xs →
      ListedBy separator Item (a ++ b) (x ∷ xs)

-- {"," Item}
abbrev pub Following : {A : Type 0} → (Symbols → A → Type 0) → Symbols → List A → Type 0
Following Item = FollowingBy mark.Comma Item

-- Item {"," Item}
abbrev pub Listed : {A : Type 0} → (Symbols → A → Type 0) → Symbols → List A → Type 0
Listed Item = ListedBy mark.Comma Item

pub data IsName : Symbols → List ℕ → Type 0 where
  is_name : {n : List ℕ} → IsName (name n ∷ []) n

-- what a column takes: an expression, or "null"
pub data ColumnValue (Inner : Symbols → Expr → Type 0) : Symbols → Expr → Type 0 where
  is_expression : {ts : Symbols} {e : Expr} → Expression Inner ts e → ColumnValue Inner ts e
  is_null : ColumnValue Inner (key word.Null ∷ []) (Lit value.Null)

-- NAME "=" what it takes
pub data IsSet (Inner : Symbols → Expr → Type 0) : Symbols → Set → Type 0 where
  is_set : {n : List ℕ} {ts : Symbols} {e : Expr} → ColumnValue Inner ts e →
      IsSet Inner (name n ∷ sign mark.Equal ∷ ts) (record { column = n; value = e })

-- "*", names, "count(*)", or "sum", "min" or "max" of a name in parentheses
pub data IsWhat : Symbols → What → Type 0 where
  every_column : IsWhat (sign mark.Star ∷ []) what.All
  named_columns : {ts : Symbols} {ns : List (List ℕ)} → Listed IsName ts ns → IsWhat ts (what.Columns ns)
  count_rows : IsWhat (key word.Count ∷ sign mark.Open ∷ sign mark.Star ∷ sign mark.Close ∷ []) what.Count
  sum_of : {n : List ℕ} → IsWhat (key word.Sum ∷ sign mark.Open ∷ name n ∷ sign mark.Close ∷ []) (what.Sum n)
  min_of : {n : List ℕ} → IsWhat (key word.Min ∷ sign mark.Open ∷ name n ∷ sign mark.Close ∷ []) (what.Min n)
  max_of : {n : List ℕ} → IsWhat (key word.Max ∷ sign mark.Open ∷ name n ∷ sign mark.Close ∷ []) (what.Max n)

-- ["and" conjunction]
pub data IsAnd (Inner : Symbols → Expr → Type 0) : Symbols → Option Expr → Type 0 where
  no_and : IsAnd Inner [] None
  and : {ts : Symbols} {e : Expr} → Conjunction Inner ts e → IsAnd Inner (key word.And ∷ ts) (Some e)

-- a statement's "where", or nothing; the word "key" names the key column here alone
pub data IsScan (Inner : Symbols → Expr → Type 0) : Symbols → Scan → Type 0 where
  no_where : IsScan Inner [] (record { bound = bound.All; filter = None })
  where_key : {a b : Symbols} {e : Expr} {f : Option Expr} → Sum Inner a e → IsAnd Inner b f →
      IsScan Inner (key word.Where ∷ key word.Key ∷ sign mark.Equal ∷ (a ++ b))
      (record { bound = bound.Key e; filter = f })
  where_between : {a b c : Symbols} {low high : Expr} {f : Option Expr} → Sum Inner a low → Sum Inner b high → IsAnd Inner c f →
      IsScan Inner (key word.Where ∷ key word.Key ∷ key word.Between ∷ (a ++ key word.And ∷ (b ++ c)))
      (record { bound = bound.Between low high; filter = f })
  where_filter : {ts : Symbols} {e : Expr} → Expression Inner ts e → IsScan Inner (key word.Where ∷ ts) (record { bound = bound.All; filter = Some e })

-- a statement, where `Inner` stands in the parentheses of its expressions, and `Deeper` in those of expressions that
-- stand in a parenthesis of the statement
pub data IsStatement (Inner Deeper : Symbols → Expr → Type 0) : Symbols → Statement → Type 0 where
  is_insert : {t : List ℕ} {ts : Symbols} {es : List Expr} → Listed (ColumnValue Deeper) ts es →
      IsStatement Inner Deeper (key word.Insert ∷ key word.Into ∷ name t ∷ key word.Values ∷ sign mark.Open ∷ (ts ++ sign mark.Close ∷ []))
      (statement.Insert t es)
  is_select : {t : List ℕ} {a b : Symbols} {w : What} {scan : Scan} → IsWhat a w → IsScan Inner b scan →
      IsStatement Inner Deeper (key word.Select ∷ (a ++ key word.From ∷ name t ∷ b)) (statement.Select w t scan)
  is_select_into : {c v t : List ℕ} {ts : Symbols} {e : Expr} → Sum Inner ts e →
      IsStatement Inner Deeper (key word.Select ∷ name c ∷ key word.Into ∷ sign mark.Colon ∷ name v ∷ key word.From ∷ name t ∷
      key word.Where ∷ key word.Key ∷ sign mark.Equal ∷ ts)
      (statement.SelectInto c v t e)
  is_update : {t : List ℕ} {a b : Symbols} {sets : List Set} {scan : Scan} → Listed (IsSet Inner) a sets → IsScan Inner b scan →
      IsStatement Inner Deeper (key word.Update ∷ name t ∷ key word.Set ∷ (a ++ b)) (statement.Update t sets scan)
  is_delete : {t : List ℕ} {ts : Symbols} {scan : Scan} → IsScan Inner ts scan →
      IsStatement Inner Deeper (key word.Delete ∷ key word.From ∷ name t ∷ ts) (statement.Delete t scan)
  is_ensure : {ts : Symbols} {e : Expr} → Expression Inner ts e → IsStatement Inner Deeper (key word.Ensure ∷ ts) (statement.Ensure e)
