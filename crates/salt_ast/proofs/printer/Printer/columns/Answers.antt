use Rattle.salt_ast.proofs.Joins.{◌⨾◌}
use Rattle.salt_ast.proofs.Loops.{others_are}
use Rattle.salt_ast.proofs.printer.Printer.columns.Goals as goal

pub returns-in-len1-up : goal.returns-in-len1-up
returns-in-len1-up g c =
    rw (others_are c.args.columns.now c.key-item.result c.in-len1-up.len_at_least c.key-item.is)
    (c.print.ensures ⨾ c.bytes.ensures ⨾ c.preceded.ensures)
