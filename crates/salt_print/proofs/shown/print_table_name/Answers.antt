use Rattle.salt_ast.proofs.Joins.{Prints-nil}
use Rattle.salt_print.proofs.Schemas.{no_table}
use Rattle.salt_print.proofs.shown.print_table_name.Goals as goal

pub returns-in_default : goal.returns-in_default
returns-in_default g c =
    rw (no_table c.args.schema.now c.args.table c.table.result c.table.ensures.value c.in_default.not-Some)
    (Prints-nil g.K.Sink.held g.K.Sink.faults c.args.out.now)
