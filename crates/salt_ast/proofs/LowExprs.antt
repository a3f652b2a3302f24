-- Expressions within the limit on depth.
use Rattle.salt_ast.proofs.CanonicalExprs.{AreRead, IsReadExpr, as_conjunction, as_expression, as_sum, conjunction_read, expression_read, sum_read}
use Rattle.salt_ast.proofs.Each.{Each}
use Rattle.salt_ast.proofs.Fragments.{IsReadAs, respelled}
use Rattle.salt_ast.proofs.TokenRows.{AreReadAs}
use Rattle.salt_ast.specs.TokenLaws.{TokenLaws}
use Rattle.salt_ast.specs.Grammar.{Atom, Conjunction, Expression, Spells, Sum, Within}
use Rattle.salt_ast.specs.Limits.{height, height_passed, is_high}
use Rattle.salt_ast.specs.Texts.{expr_text}
use Rattle.salt_values.specs.declared.limits.TheConstants.{DEPTH_MOST}
use Rattle.std.specs.Bool.{then_some}
use Rattle.std.specs.Option.{option_or}
use Rattle.salt_ast.specs.declared.limit.LimitName.TheVariants as limit
use Rattle.salt_ast.specs.declared.trees.Expr.{Expr}
use Rattle.std.proofs.Common.{Bool, List, None, Option, Some, [], arith, false, refl, true, ◌||◌, ◌∷◌, ◌≡◌, ◌≤◌}
use Rattle.std.proofs.lemmas.Bool.Decides.{nat_tests}
use Rattle.std.specs.List.{list_any}

-- no higher than the limit on depth
abbrev pub IsLow : Expr → Type 0
IsLow e = height e ≤ DEPTH_MOST

-- an expression with no more parentheses around a token
abbrev pub Shallow : Spells
Shallow = Within DEPTH_MOST

low_atom : (e : Expr) → IsReadExpr e → IsLow e → IsReadAs (Atom Shallow) (expr_text e) e
low_atom e x low = x DEPTH_MOST (omega arith)

module _ (laws : TokenLaws) {Inner : Spells} (inner : AreRead Inner) where
  pub low_sum : AreReadAs (Sum Inner) (Sum Shallow) expr_text IsLow
  low_sum ts e d h low = respelled (λ _ d. as_sum d) (low_atom e (sum_read laws inner ts e d h) low)

  pub low_conjunction : AreReadAs (Conjunction Inner) (Conjunction Shallow) expr_text IsLow
  low_conjunction ts e d h low = respelled (λ _ d. as_conjunction d) (low_atom e (conjunction_read laws inner ts e d h) low)

  pub low_expression : AreReadAs (Expression Inner) (Expression Shallow) expr_text IsLow
  low_expression ts e d h low = respelled (λ _ d. as_expression d) (low_atom e (expression_read laws inner ts e d h) low)

-- where no height passes the limit on depth
pub all_low : (es : List Expr) → height_passed es ≡ None → Each IsLow es
all_low [] h = tt
all_low (e ∷ es) h = go (is_high e) refl (all_low es) h
  where
    go : (t : Bool) → is_high e ≡ t → (height_passed es ≡ None → Each IsLow es) → then_some (t || list_any is_high es) limit.Depth ≡ None → Each IsLow (e ∷ es)
    go true k others h = absurd (cc h)
    go false k others h = (grind (arith, nat_tests), others h)

pub other_is_none : {A : Type 0} (x y : Option A) → option_or x y ≡ None → y ≡ None
other_is_none None y h = h
other_is_none (Some x) y h = absurd (cc h)
