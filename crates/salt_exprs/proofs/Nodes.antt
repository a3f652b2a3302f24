-- The forms of expressions, as the program gives them, and what they give.
use Rattle.salt_ast.specs.declared.trees.Expr.{Expr}
use Rattle.salt_ast.specs.declared.trees.Expr.TheBlock.{hidden-the_row-Expr-0}
use Rattle.salt_ast.specs.declared.trees.Expr.TheVariants as expr
use Rattle.salt_ast.specs.declared.trees.Field.{Field}
use Rattle.salt_ast.specs.declared.trees.Op.{Op}
use Rattle.salt_exprs.specs.Resolving.{Resolves, eval_resolved, negation, null_test, operation, visible}
use Rattle.salt_exprs.specs.declared.resolved.Resolved.{Resolved}
use Rattle.salt_exprs.specs.declared.resolved.Resolved.TheBlock.{hidden-the_row-Resolved-0}
use Rattle.salt_exprs.specs.declared.resolved.Resolved.TheVariants.{Binary, IsNull, Not}
use Rattle.salt_model.specs.Eval.{Visible, eval, negated, null_tested, operate}
use Rattle.salt_model.specs.Words.{and_then}
use Rattle.salt_model.specs.declared.vars.Binding.{Binding}
use Rattle.salt_values.specs.declared.value.Value.{Value}
use Rattle.std.proofs.Common.{Bool, List, refl, ◌≡◌}

pub negation_node : (r : Resolved) → Not r ≡ negation r
unfolding hidden-the_row-Resolved-0 denote.Hole.Carrier.hidden
negation_node r = refl

pub null_test_node : (r : Resolved) (negated : Bool) → IsNull r negated ≡ null_test r negated
unfolding hidden-the_row-Resolved-0 denote.Hole.Carrier.hidden
null_test_node r negated = refl

pub operation_node : (op : Op) (a b : Resolved) → Binary op a b ≡ operation op a b
unfolding hidden-the_row-Resolved-0 denote.Hole.Carrier.hidden
operation_node op a b = refl

pub not_gives : (row : List Value) (r : Resolved) → eval_resolved row (Not r) ≡ and_then (eval_resolved row r) negated
unfolding hidden-the_row-Resolved-0 denote.Hole.Carrier.hidden
not_gives row r = refl

pub null_test_gives : (row : List Value) (r : Resolved) (is_negated : Bool) → eval_resolved row (IsNull r is_negated) ≡ and_then (eval_resolved row r) (null_tested is_negated)
unfolding hidden-the_row-Resolved-0 denote.Hole.Carrier.hidden
null_test_gives row r is_negated = refl

pub operation_gives : (row : List Value) (op : Op) (a b : Resolved) → eval_resolved row (Binary op a b) ≡ operate op (eval_resolved row a) (eval_resolved row b)
unfolding hidden-the_row-Resolved-0 denote.Hole.Carrier.hidden
operation_gives row op a b = refl

pub not_means : (s : Visible) (e : Expr) → eval s (expr.Not e) ≡ and_then (eval s e) negated
unfolding hidden-the_row-Expr-0 denote.Hole.Carrier.hidden
not_means s e = refl

pub null_test_means : (s : Visible) (e : Expr) (is_negated : Bool) → eval s (expr.IsNull e is_negated) ≡ and_then (eval s e) (null_tested is_negated)
unfolding hidden-the_row-Expr-0 denote.Hole.Carrier.hidden
null_test_means s e is_negated = refl

pub operation_means : (s : Visible) (op : Op) (a b : Expr) → eval s (expr.Binary op a b) ≡ operate op (eval s a) (eval s b)
unfolding hidden-the_row-Expr-0 denote.Hole.Carrier.hidden
operation_means s op a b = refl

-- an expression is resolved where its operands are
pub not_resolves : (columns : List Field) (vars : List Binding) (r s : Resolved) (e : Expr) →
    Resolves s columns vars e → r ≡ negation s → Resolves r columns vars (expr.Not e)
not_resolves columns vars r s e h k row = rw (k, h row, not_means (visible columns row vars) e) refl

pub null_test_resolves : (columns : List Field) (vars : List Binding) (r s : Resolved) (e : Expr) (is_negated : Bool) →
    Resolves s columns vars e → r ≡ null_test s is_negated → Resolves r columns vars (expr.IsNull e is_negated)
null_test_resolves columns vars r s e is_negated h k row = rw (k, h row, null_test_means (visible columns row vars) e is_negated) refl

pub operation_resolves : (columns : List Field) (vars : List Binding) (r s t : Resolved) (op : Op) (a b : Expr) →
    Resolves s columns vars a → Resolves t columns vars b → r ≡ operation op s t → Resolves r columns vars (expr.Binary op a b)
operation_resolves columns vars r s t op a b h k e row = rw (e, h row, k row, operation_means (visible columns row vars) op a b) refl
