use Rattle.salt_ast.proofs.Nodes.{negation_node, null_test_node, operation_node}
use Rattle.std.proofs.Common.{refl}
use Rattle.salt_schema.proofs.names.+unknown_in.Goals as goal

pub returns-in-Not : goal.returns-in-Not
returns-in-Not t c = rw (c.in-Not.is, negation_node, ← c.get.ensures) c.unknown_in.ensures

pub returns-in-IsNull : goal.returns-in-IsNull
returns-in-IsNull t c = rw (c.in-IsNull.is, null_test_node, ← c.get-in-IsNull.ensures) c.unknown_in-in-IsNull.ensures

pub returns-in-Binary : goal.returns-in-Binary
returns-in-Binary t c =
    rw (c.in-Binary.is, operation_node, c.first_of.ensures, c.unknown_in-left.ensures, c.unknown_in-right.ensures, c.get-in-Binary.ensures, c.get-in-Binary-2.ensures) refl
