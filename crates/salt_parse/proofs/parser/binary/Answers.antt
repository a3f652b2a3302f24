use Rattle.std.proofs.Common.{◌≡◌, ◌∙◌}
use Rattle.salt_ast.specs.Trees.{operation}
use Rattle.salt_parse.proofs.Nodes.{operation_node}
use Rattle.salt_parse.proofs.parser.binary.Goals as goal

pub returns : goal.returns
returns c =
    let l : c.in_ok-left.left ≡ c.args.left = c.in_ok-left.ensures ∙ c.into_inner.ensures in
    let r : c.in_ok-right.right ≡ c.args.right = c.in_ok-right.ensures ∙ c.into_inner-2.ensures in
    rw c.if-not-is_clear.false (c.new-3.ensures ∙ operation_node c.args.op c.in_ok-left.left c.in_ok-right.right ∙ λ i. operation c.args.op (l i) (r i))
