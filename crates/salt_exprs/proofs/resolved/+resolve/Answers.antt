use Rattle.std.proofs.lemmas.Result.{IfOk-weaker}
use Rattle.salt_exprs.proofs.Nodes.{not_resolves, null_test_resolves, operation_resolves}
use Rattle.salt_exprs.proofs.resolved.+resolve.Goals as goal

pub returns-in_ok-of-in-Not : goal.returns-in_ok-of-in-Not
returns-in_ok-of-in-Not t c =
    rw (c.in-Not.is, ← c.get.ensures)
    (IfOk-weaker c.negation.result _ _ (λ r e. not_resolves c.args.columns.now c.args.vars.now r c.in_ok-of-in-Not.of c.get.result.now c.in_ok-of-in-Not.ensures e) c.negation.ensures)

pub returns-in_ok-of-in-IsNull : goal.returns-in_ok-of-in-IsNull
returns-in_ok-of-in-IsNull t c =
    rw (c.in-IsNull.is, ← c.get-in-IsNull.ensures)
    (IfOk-weaker c.null_test.result _ _ (λ r e. null_test_resolves c.args.columns.now c.args.vars.now r c.in_ok-of-in-IsNull.of c.get-in-IsNull.result.now c.in-IsNull.negated c.in_ok-of-in-IsNull.ensures e) c.null_test.ensures)

pub returns-in_ok-right-in-Binary : goal.returns-in_ok-right-in-Binary
returns-in_ok-right-in-Binary t c =
    rw (c.in-Binary.is, ← c.get-in-Binary.ensures, ← c.get-in-Binary-2.ensures)
    (IfOk-weaker c.operation.result _ _ (λ r e. operation_resolves c.args.columns.now c.args.vars.now r c.in_ok-left-in-Binary.left c.in_ok-right-in-Binary.right c.in-Binary.op c.get-in-Binary.result.now c.get-in-Binary-2.result.now c.in_ok-left-in-Binary.ensures c.in_ok-right-in-Binary.ensures e) c.operation.ensures)
