use Rattle.salt_ast.proofs.Joins.{◌⨾◌}
use Rattle.salt_ast.proofs.Nodes.{binary_text, is_null_text, not_text}
use Rattle.salt_ast.proofs.printer.Printer.+expr.Goals as goal

pub returns-in-Variable : goal.returns-in-Variable
returns-in-Variable g t c = rw c.in-Variable.is (c.bytes.ensures ⨾ c.kept-in-Variable.ensures)

pub returns-in-Not : goal.returns-in-Not
returns-in-Not g t c =
    rw (c.in-Not.is, not_text, ← c.get.ensures) (c.bytes-in-Not.ensures ⨾ c.expr.ensures ⨾ c.bytes-in-Not-2.ensures)

pub returns-in-IsNull : goal.returns-in-IsNull
returns-in-IsNull g t c =
    rw (c.in-IsNull.is, is_null_text, ← c.get-in-IsNull.ensures, ← c.null_test.ensures)
    (c.bytes-in-IsNull.ensures ⨾ c.expr-in-IsNull.ensures ⨾ c.bytes-in-IsNull-2.ensures ⨾ c.bytes-in-IsNull-3.ensures)

pub returns-in-Binary : goal.returns-in-Binary
returns-in-Binary g t c =
    rw (c.in-Binary.is, binary_text, ← c.get-in-Binary.ensures, ← c.text.ensures, ← c.get-in-Binary-2.ensures)
    (c.bytes-in-Binary.ensures ⨾ c.expr-in-Binary.ensures ⨾ c.bytes-in-Binary-2.ensures ⨾ c.bytes-in-Binary-3.ensures ⨾
    c.bytes-in-Binary-4.ensures ⨾ c.expr-in-Binary-2.ensures ⨾ c.bytes-in-Binary-5.ensures)
