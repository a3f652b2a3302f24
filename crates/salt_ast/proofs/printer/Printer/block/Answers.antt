use Rattle.salt_ast.proofs.Joins.{◌⨾◌}
use Rattle.salt_ast.proofs.Loops.{others_are}
use Rattle.salt_ast.proofs.printer.Printer.block.Goals as goal

pub returns-in-len1-up : goal.returns-in-len1-up
returns-in-len1-up g c =
    rw (others_are c.args.block.now c.first-item.result c.in-len1-up.len_at_least c.first-item.is)
    (c.bytes-in-len1-up.ensures ⨾ c.print.ensures ⨾ c.preceded.ensures ⨾ c.bytes-in-len1-up-2.ensures)
