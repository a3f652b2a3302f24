use Rattle.salt_ast.proofs.Nodes.{negation_node, null_test_node, operation_node}
use Rattle.salt_schema.proofs.kinds.+may_be_null.Goals as goal
use Rattle.std.proofs.Common.{refl}

pub returns-in-Not : goal.returns-in-Not
returns-in-Not t c = rw (c.in-Not.is, negation_node, ← c.get.ensures) c.may_be_null.ensures

pub returns-in-IsNull : goal.returns-in-IsNull
returns-in-IsNull t c = rw (c.in-IsNull.is, null_test_node, ← c.get-in-IsNull.ensures) c.may_be_null-in-IsNull.ensures

pub returns-then-left : goal.returns-then-left
returns-then-left t c =
    rw (c.in-Binary.is, operation_node, ← c.get-in-Binary.ensures, ← c.may_be_null-left.ensures, c.if-left.true) refl

pub returns-else-left : goal.returns-else-left
returns-else-left t c =
    rw (c.in-Binary.is, operation_node, ← c.get-in-Binary.ensures, ← c.get-in-Binary-2.ensures, ← c.may_be_null-left.ensures, c.if-left.false) c.may_be_null-right.ensures
