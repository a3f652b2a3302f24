-- The forms of expressions, as the program gives them.
use Rattle.salt_ast.specs.Trees.{negation, null_test, operation}
use Rattle.salt_ast.specs.declared.trees.Expr.{Expr}
use Rattle.salt_ast.specs.declared.trees.Expr.TheBlock.{hidden-the_row-Expr-0}
use Rattle.salt_ast.specs.declared.trees.Expr.TheVariants.{Binary, IsNull, Not}
use Rattle.salt_ast.specs.declared.trees.Op.{Op}
use Rattle.std.proofs.Common.{Bool, refl, ◌≡◌}

pub negation_node : (e : Expr) → Not e ≡ negation e
unfolding hidden-the_row-Expr-0 denote.Hole.Carrier.hidden
negation_node e = refl

pub operation_node : (o : Op) (l r : Expr) → Binary o l r ≡ operation o l r
unfolding hidden-the_row-Expr-0 denote.Hole.Carrier.hidden
operation_node o l r = refl

pub null_test_node : (negated : Bool) (e : Expr) → IsNull e negated ≡ null_test negated e
unfolding hidden-the_row-Expr-0 denote.Hole.Carrier.hidden
null_test_node negated e = refl
