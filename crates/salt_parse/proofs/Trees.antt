-- The trees that reading from left to right finds, whatever they pass.
use Rattle.salt_ast.specs.Operators.{operator}
use Rattle.salt_ast.specs.Trees.{letters, negation, null_test, number, operation}
use Rattle.salt_ast.specs.declared.trees.Expr.{Column, Expr, Variable}
use Rattle.salt_parse.specs.Reading.{after, at_operator, either, of_level}
use Rattle.salt_ast.specs.Scanning.{◌>>=◌}
use Rattle.salt_ast.specs.Symbols.{Symbols, int, key, name, sign, text}
use Rattle.salt_ast.specs.declared.keyword.Keyword.TheVariants as word
use Rattle.salt_ast.specs.declared.sign.Sign.TheVariants as mark
use Rattle.std.proofs.Common.{Bool, None, Option, Some, [], false, length, pos, suc, true, zero, ℕ, ◌∷◌}
use Rattle.std.specs.Prelude.{neg_ℤ}

-- a tree, and the symbols behind it
abbrev pub TreeReader : Type 0 → Type 0
TreeReader A = Symbols → Option (A × Symbols)

unfoldable pub tail_of : ℕ → TreeReader Expr → ℕ → Expr → TreeReader Expr
tail_of level operand zero l ts = None
tail_of level operand (suc n) l [] = Some (l, [])
tail_of level operand (suc n) l (t ∷ ts) =
    at_operator (of_level level (operator t)) (Some (l, t ∷ ts)) (λ o. operand ts >>= λ x. tail_of level operand n (operation o l x.0) x.1)

unfoldable pub left_of : ℕ → TreeReader Expr → TreeReader Expr
left_of level operand ts = do
  x ← operand ts
  tail_of level operand (suc (length x.1)) x.0 x.1

abbrev pub tested_of : Bool → Expr → TreeReader Expr
tested_of negated l ts = after (key word.Null) ts >>= λ us. Some (null_test negated l, us)

abbrev pub is_of : Expr → TreeReader Expr
is_of l ts = either (after (key word.Not) ts) (tested_of false l ts) (tested_of true l)

abbrev pub null_test_of : Expr → TreeReader Expr
null_test_of l ts = either (after (key word.Is) ts) (Some (l, ts)) (is_of l)

abbrev pub second_of : ℕ → TreeReader Expr → Expr → TreeReader Expr
second_of level operand l [] = Some (l, [])
second_of level operand l (t ∷ ts) =
    at_operator (of_level level (operator t)) (null_test_of l (t ∷ ts)) (λ o. operand ts >>= λ x. Some (operation o l x.0, x.1))

unfoldable pub once_of : ℕ → TreeReader Expr → TreeReader Expr
once_of level operand ts = do
  x ← operand ts
  second_of level operand x.0 x.1

unfoldable pub nots_of : TreeReader Expr → TreeReader Expr
nots_of operand [] = operand []
nots_of operand (key word.Not ∷ ts) = nots_of operand ts >>= λ x. Some (negation x.0, x.1)
nots_of operand (t ∷ ts) = operand (t ∷ ts)

abbrev pub minus_of : TreeReader Expr
minus_of (int n ∷ ts) = Some (number (neg_ℤ (pos n)), ts)
minus_of _ = None

abbrev pub colon_of : TreeReader Expr
colon_of (name n ∷ ts) = Some (Variable n, ts)
colon_of _ = None

abbrev pub paren_of : TreeReader Expr → TreeReader Expr
paren_of inner ts = do
  x ← inner ts
  us ← after (sign mark.Close) x.1
  Some (x.0, us)

unfoldable pub atom_of : TreeReader Expr → TreeReader Expr
atom_of inner (int n ∷ ts) = Some (number (pos n), ts)
atom_of inner (text t ∷ ts) = Some (letters t, ts)
atom_of inner (name n ∷ ts) = Some (Column n, ts)
atom_of inner (sign mark.Minus ∷ ts) = minus_of ts
atom_of inner (sign mark.Colon ∷ ts) = colon_of ts
atom_of inner (sign mark.Open ∷ ts) = paren_of inner ts
atom_of inner _ = None

abbrev pub product_of : TreeReader Expr → TreeReader Expr
product_of inner = left_of 5 (atom_of inner)

abbrev pub sum_of : TreeReader Expr → TreeReader Expr
sum_of inner = left_of 4 (product_of inner)

abbrev pub comparison_of : TreeReader Expr → TreeReader Expr
comparison_of inner = once_of 3 (sum_of inner)

abbrev pub negation_of : TreeReader Expr → TreeReader Expr
negation_of inner = nots_of (comparison_of inner)

abbrev pub conjunction_of : TreeReader Expr → TreeReader Expr
conjunction_of inner = left_of 2 (negation_of inner)

abbrev pub expression_of : TreeReader Expr → TreeReader Expr
expression_of inner = left_of 1 (conjunction_of inner)

-- an expression whose tokens stand within fewer than `depth` parentheses
unfoldable pub within_of : ℕ → TreeReader Expr
within_of zero ts = None
within_of (suc depth) ts = expression_of (within_of depth) ts
