use Rattle.std.proofs.Common.{ap, ◌∙◌}
use Rattle.salt_exprs.proofs.Nodes.{negation_node}
use Rattle.salt_exprs.specs.Resolving.{negation}
use Rattle.salt_exprs.proofs.resolved.negation.Goals as goal

pub returns : goal.returns
returns c = negation_node c.in_ok-of.of ∙ ap negation c.in_ok-of.ensures
