use Rattle.salt_ast.specs.Trees.{operation}
use Rattle.salt_ast.specs.declared.trees.Expr.{Expr}
use Rattle.salt_ast.specs.declared.trees.Expr.TheBlock.{hidden-the_row-Expr-0}
use Rattle.salt_ast.specs.declared.trees.Expr.TheVariants.{Binary}
use Rattle.salt_ast.specs.declared.trees.Op.{Op}
use Rattle.std.proofs.Common.{refl, ◌∙◌, ◌≡◌}
use Rattle.salt_workload.proofs.trees.operation.Goals as goal

operation_node : (o : Op) (l r : Expr) → Binary o l r ≡ operation o l r
unfolding hidden-the_row-Expr-0 denote.Hole.Carrier.hidden
operation_node o l r = refl

pub returns : goal.returns
returns c =
    let l = c.in_ok-left.ensures in
    let r = c.in_ok-right.ensures in
    operation_node c.args.op c.in_ok-left.left c.in_ok-right.right ∙ λ i. operation c.args.op (l i) (r i)
