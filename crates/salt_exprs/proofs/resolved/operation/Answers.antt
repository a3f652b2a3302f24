use Rattle.std.proofs.Common.{◌∙◌}
use Rattle.salt_exprs.proofs.Nodes.{operation_node}
use Rattle.salt_exprs.specs.Resolving.{operation}
use Rattle.salt_exprs.proofs.resolved.operation.Goals as goal

pub returns : goal.returns
returns c =
    let l = c.in_ok-left.ensures in
    let r = c.in_ok-right.ensures in
    operation_node c.args.op c.in_ok-left.left c.in_ok-right.right ∙ λ i. operation c.args.op (l i) (r i)
