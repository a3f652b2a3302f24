use Rattle.salt_ast.proofs.Joins.{◌⨾◌}
use Rattle.salt_print.proofs.shown.print_lock.Goals as goal

pub returns : goal.returns
returns g c = c.bytes.ensures ⨾ c.print_owner.ensures ⨾ c.bytes-2.ensures ⨾ c.print_family.ensures ⨾ c.bytes-3.ensures ⨾ c.print_mode.ensures ⨾ c.bytes-4.ensures ⨾ c.print_table_name.ensures ⨾ c.bytes-5.ensures ⨾ c.print_range.ensures
