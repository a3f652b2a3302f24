use Rattle.std.proofs.Common.{false, true}
use Rattle.salt_parse.proofs.Nodes.{negation_node, null_test_node}
use Rattle.salt_parse.proofs.parser.node.Goals as goal

pub returns-in-Not : goal.returns-in-Not
returns-in-Not c = rw c.in-Not.is (negation_node c.args.operand)

pub returns-in-IsNull : goal.returns-in-IsNull
returns-in-IsNull c = rw c.in-IsNull.is (null_test_node false c.args.operand)

pub returns-in-IsNotNull : goal.returns-in-IsNotNull
returns-in-IsNotNull c = rw c.in-IsNotNull.is (null_test_node true c.args.operand)
