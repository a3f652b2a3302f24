use Rattle.salt_ast.proofs.Joins.{◌⨾◌}
use Rattle.salt_ast.proofs.print.StatementCanonical.print.Goals as goal

pub returns-in-Insert : goal.returns-in-Insert
returns-in-Insert g c =
    rw (c.in-Insert.is, ← c.as_slice.ensures)
    (c.bytes.ensures ⨾ c.kept.ensures ⨾ c.bytes-in-Insert.ensures ⨾ c.between_commas.ensures ⨾ c.bytes-in-Insert-2.ensures)

pub returns-in-Select : goal.returns-in-Select
returns-in-Select g c =
    rw c.in-Select.is
    (c.bytes-in-Select.ensures ⨾ c.print.ensures ⨾ c.bytes-in-Select-2.ensures ⨾ c.kept-in-Select.ensures ⨾ c.print-in-Select.ensures)

pub returns-in-SelectInto : goal.returns-in-SelectInto
returns-in-SelectInto g c =
    rw c.in-SelectInto.is
    (c.bytes-in-SelectInto.ensures ⨾ c.kept-in-SelectInto.ensures ⨾ c.bytes-in-SelectInto-2.ensures ⨾ c.kept-in-SelectInto-2.ensures ⨾ c.from_key.ensures)

pub returns-in-Update : goal.returns-in-Update
returns-in-Update g c =
    rw (c.in-Update.is, ← c.as_slice-in-Update.ensures)
    (c.bytes-in-Update.ensures ⨾ c.kept-in-Update.ensures ⨾ c.bytes-in-Update-2.ensures ⨾ c.between_commas-in-Update.ensures ⨾ c.print-in-Update.ensures)

pub returns-in-Delete : goal.returns-in-Delete
returns-in-Delete g c = rw c.in-Delete.is (c.bytes-in-Delete.ensures ⨾ c.kept-in-Delete.ensures ⨾ c.print-in-Delete.ensures)

pub returns-in-Ensure : goal.returns-in-Ensure
returns-in-Ensure g c = rw c.in-Ensure.is (c.bytes-in-Ensure.ensures ⨾ c.print-in-Ensure.ensures)
