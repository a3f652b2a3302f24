use Rattle.salt_ast.proofs.Nodes.{negation_node, null_test_node, operation_node}
use Rattle.salt_schema.proofs.kinds.+kind_of.Goals as goal
use Rattle.std.proofs.Common.{refl}

pub returns-in-Not : goal.returns-in-Not
returns-in-Not t c = rw (c.in-Not.is, negation_node, c.truth_if.ensures, c.is_of_kind.ensures, c.kind_of-given.ensures, c.get.ensures) refl

pub returns-in-IsNull : goal.returns-in-IsNull
returns-in-IsNull t c =
    rw (c.in-IsNull.is, null_test_node, c.truth_if-in-IsNull.ensures, c.is_value.ensures, c.kind_of-given-in-IsNull.ensures, c.get-in-IsNull.ensures) refl

pub returns-in-Binary : goal.returns-in-Binary
returns-in-Binary t c =
    rw (c.in-Binary.is, operation_node, c.kind_of_both.ensures, c.kind_of-left.ensures, c.kind_of-right.ensures, c.get-in-Binary.ensures, c.get-in-Binary-2.ensures) refl
