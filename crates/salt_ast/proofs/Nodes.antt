-- The forms of expressions, as the program gives them.
use Rattle.salt_ast.specs.Operators.{op_text}
use Rattle.salt_ast.specs.Texts.{expr_text, null_test_text}
use Rattle.salt_ast.specs.Trees.{negation, null_test, operation}
use Rattle.salt_ast.specs.declared.trees.Expr.{Expr}
use Rattle.salt_ast.specs.declared.trees.Expr.TheBlock.{hidden-the_row-Expr-0}
use Rattle.salt_ast.specs.declared.trees.Expr.TheVariants.{Binary, IsNull, Not}
use Rattle.salt_ast.specs.declared.trees.Op.{Op}
use Rattle.std.proofs.Common.{Bool, ap, codes, refl, ◌++◌, ◌≡◌}

pub negation_node : (e : Expr) → Not e ≡ negation e
unfolding hidden-the_row-Expr-0 denote.Hole.Carrier.hidden
negation_node e = refl

pub null_test_node : (e : Expr) (negated : Bool) → IsNull e negated ≡ null_test negated e
unfolding hidden-the_row-Expr-0 denote.Hole.Carrier.hidden
null_test_node e negated = refl

pub operation_node : (o : Op) (l r : Expr) → Binary o l r ≡ operation o l r
unfolding hidden-the_row-Expr-0 denote.Hole.Carrier.hidden
operation_node o l r = refl

pub not_text : (e : Expr) → expr_text (Not e) ≡ codes "(not " ++ (expr_text e ++ codes ")")
not_text e = ap expr_text (negation_node e)

pub is_null_text : (e : Expr) (negated : Bool) → expr_text (IsNull e negated) ≡ codes "(" ++ (expr_text e ++ (null_test_text negated ++ codes ")"))
is_null_text e negated = ap expr_text (null_test_node e negated)

pub binary_text : (o : Op) (l r : Expr) → expr_text (Binary o l r) ≡ codes "(" ++ (expr_text l ++ (codes " " ++ (op_text o ++ (codes " " ++ (expr_text r ++ codes ")")))))
binary_text o l r = ap expr_text (operation_node o l r)
