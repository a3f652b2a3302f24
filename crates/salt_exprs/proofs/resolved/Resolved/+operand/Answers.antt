use Rattle.std.proofs.Common.{false, refl, ◌≡◌}
use Rattle.std.proofs.lemmas.Result.{err_from_is_err_and}
use Rattle.salt_model.specs.Eval.{negated, null_tested}
use Rattle.salt_exprs.specs.Operands.{datum_of, is_decided}
use Rattle.salt_exprs.proofs.Nodes.{not_gives, null_test_gives, operation_gives}
use Rattle.salt_exprs.proofs.Steps.{both_given, decided, left_passed_on, passed_on, right_passed_on}
use Rattle.salt_exprs.proofs.resolved.Resolved.+operand.Goals as goal

pub returns-in_err-of-in-Not : goal.returns-in_err-of-in-Not
returns-in_err-of-in-Not g t c =
    let p = err_from_is_err_and c.from_residual-in_err-of-in-Not.result c.from_residual-in_err-of-in-Not.ensures.1 in
    rw (p.1, p.2, c.in-Not.is, not_gives, ← c.get.ensures) (passed_on _ _ negated c.in_err-of-in-Not.ensures)

pub returns-in_err-of-in-IsNull : goal.returns-in_err-of-in-IsNull
returns-in_err-of-in-IsNull g t c =
    let p = err_from_is_err_and c.from_residual-in_err-of-in-IsNull.result c.from_residual-in_err-of-in-IsNull.ensures.1 in
    rw (p.1, p.2, c.in-IsNull.is, null_test_gives, ← c.get-in-IsNull.ensures) (passed_on _ _ (null_tested c.in-IsNull.is_negated) c.in_err-of-in-IsNull.ensures)

pub returns-in_err-left-in-Binary : goal.returns-in_err-left-in-Binary
returns-in_err-left-in-Binary g t c =
    let p = err_from_is_err_and c.from_residual-in_err-left-in-Binary.result c.from_residual-in_err-left-in-Binary.ensures.1 in
    rw (p.1, p.2, c.in-Binary.is, operation_gives, ← c.get-in-Binary.ensures) (left_passed_on _ _ _ _ c.in_err-left-in-Binary.ensures)

pub returns-then-is_decided : goal.returns-then-is_decided
returns-then-is_decided g t c =
    rw (c.in-Binary.is, operation_gives, ← c.get-in-Binary.ensures) (decided _ _ _ _ c.in_ok-left-in-Binary.ensures cc)

pub returns-in_err-right-in-Binary : goal.returns-in_err-right-in-Binary
returns-in_err-right-in-Binary g t c =
    let p = err_from_is_err_and c.from_residual-in_err-right-in-Binary.result c.from_residual-in_err-right-in-Binary.ensures.1 in
    rw (p.1, p.2, c.in-Binary.is, operation_gives, ← c.get-in-Binary.ensures, ← c.get-in-Binary-2.ensures) (right_passed_on _ _ _ _ _ c.in_ok-left-in-Binary.ensures (cc) c.in_err-right-in-Binary.ensures)

pub returns-in_ok-of-in-Not : goal.returns-in_ok-of-in-Not
returns-in_ok-of-in-Not g t c =
    rw (c.in-Not.is, not_gives, ← c.get.ensures, c.in_ok-of-in-Not.ensures, c.negated.ensures) refl

pub returns-in_ok-of-in-IsNull : goal.returns-in_ok-of-in-IsNull
returns-in_ok-of-in-IsNull g t c =
    rw (c.in-IsNull.is, null_test_gives, ← c.get-in-IsNull.ensures, c.in_ok-of-in-IsNull.ensures, c.null_tested.ensures) refl

pub returns-in_ok-right-in-Binary : goal.returns-in_ok-right-in-Binary
returns-in_ok-right-in-Binary g t c =
    let e : is_decided c.in-Binary.op (datum_of c.in_ok-left-in-Binary.left) ≡ false = cc in
    rw (c.in-Binary.is, operation_gives, ← c.get-in-Binary.ensures, ← c.get-in-Binary-2.ensures, both_given c.in-Binary.op _ _ (datum_of c.in_ok-left-in-Binary.left) (datum_of c.in_ok-right-in-Binary.right) c.in_ok-left-in-Binary.ensures c.in_ok-right-in-Binary.ensures e) c.operate.ensures
