-- Which rows of symbols spell which expression.
use Rattle.salt_ast.specs.Operators.{operator, precedence}
use Rattle.salt_ast.specs.Trees.{negation, null_test, number, operation}
use Rattle.salt_ast.specs.declared.trees.Expr.{Column, Expr, Lit, Variable}
use Rattle.salt_ast.specs.declared.trees.Op.{Op}
use Rattle.salt_ast.specs.Symbols.{Symbols, Symbol, int, key, name, sign, text}
use Rattle.salt_ast.specs.declared.keyword.Keyword.TheVariants as word
use Rattle.salt_ast.specs.declared.sign.Sign.TheVariants as mark
use Rattle.salt_values.specs.declared.value.Value.TheVariants as value
use Rattle.std.specs.Prelude.{List, Some, [], false, neg_ℤ, pos, suc, true, zero, ℕ, ◌++◌, ◌∷◌, ◌≡◌}

-- what spells what
abbrev pub Spells : Type 1
Spells = Symbols → Expr → Type 0

-- Operand { operation Operand }, grouped to the left
pub data Left (level : ℕ) (Operand : Symbols → Expr → Type 0) : Symbols → Expr → Type 0 where
  one : {ts : Symbols} {e : Expr} → Operand ts e → Left level Operand ts e
  more : {a b : Symbols} {o : Op} {l r : Expr} → Left level Operand a l → (t : Symbol) → operator t ≡ Some o → precedence o ≡ level → Operand b r →
      Left level Operand (a ++ t ∷ b) (operation o l r)

-- Operand [ operation Operand | "is" ["not"] "null" ]
pub data Once (level : ℕ) (Operand : Symbols → Expr → Type 0) : Symbols → Expr → Type 0 where
  alone : {ts : Symbols} {e : Expr} → Operand ts e → Once level Operand ts e
  pair : {a b : Symbols} {o : Op} {l r : Expr} → Operand a l → (t : Symbol) → operator t ≡ Some o → precedence o ≡ level → Operand b r →
      Once level Operand (a ++ t ∷ b) (operation o l r)
  is_null : {ts : Symbols} {e : Expr} → Operand ts e → Once level Operand (ts ++ key word.Is ∷ key word.Null ∷ []) (null_test false e)
  is_not_null : {ts : Symbols} {e : Expr} → Operand ts e →
      Once level Operand (ts ++ key word.Is ∷ key word.Not ∷ key word.Null ∷ []) (null_test true e)

-- {"not"} Operand
pub data Nots (Operand : Symbols → Expr → Type 0) : Symbols → Expr → Type 0 where
  plain : {ts : Symbols} {e : Expr} → Operand ts e → Nots Operand ts e
  not : {ts : Symbols} {e : Expr} → Nots Operand ts e → Nots Operand (key word.Not ∷ ts) (negation e)

-- a literal, a column, a parameter or variable, or what stands in parentheses; a minus sign belongs to the number
-- behind it
pub data Atom (Inner : Symbols → Expr → Type 0) : Symbols → Expr → Type 0 where
  plus_int : {n : ℕ} → Atom Inner (int n ∷ []) (number (pos n))
  minus_int : {n : ℕ} → Atom Inner (sign mark.Minus ∷ int n ∷ []) (number (neg_ℤ (pos n)))
  literal : {t : List ℕ} → Atom Inner (text t ∷ []) (Lit (value.Text t))
  named : {n : List ℕ} → Atom Inner (name n ∷ []) (Column n)
  colon : {n : List ℕ} → Atom Inner (sign mark.Colon ∷ name n ∷ []) (Variable n)
  paren : {ts : Symbols} {e : Expr} → Inner ts e → Atom Inner (sign mark.Open ∷ (ts ++ sign mark.Close ∷ [])) e

-- The forms of expressions, from the tightest on, given what stands in their parentheses.

abbrev pub Sum : Spells → Spells
Sum Inner = Left 4 (Left 5 (Atom Inner))

abbrev pub Conjunction : Spells → Spells
Conjunction Inner = Left 2 (Nots (Once 3 (Sum Inner)))

abbrev pub Expression : Spells → Spells
Expression Inner = Left 1 (Conjunction Inner)

-- an expression whose tokens stand within fewer than `depth` of its parentheses
unfoldable pub Within : ℕ → Spells
Within zero = λ ts e. ⊥
Within (suc depth) = Expression (Within depth)
