use Rattle.salt_stands.proofs.Nodes.{nodes_may_be, nodes_which}
use Rattle.salt_stands.proofs.laws.nodes_are_of_changes.Goals as goal

pub returns : goal.returns
returns g = record { may = nodes_may_be; which = nodes_which }
