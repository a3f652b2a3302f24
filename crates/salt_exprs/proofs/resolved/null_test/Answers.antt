use Rattle.std.proofs.Common.{ap, ◌∙◌}
use Rattle.salt_exprs.proofs.Nodes.{null_test_node}
use Rattle.salt_exprs.specs.Resolving.{null_test}
use Rattle.salt_exprs.proofs.resolved.null_test.Goals as goal

pub returns : goal.returns
returns c = null_test_node c.in_ok-of.of c.args.negated ∙ ap (λ r. null_test r c.args.negated) c.in_ok-of.ensures
