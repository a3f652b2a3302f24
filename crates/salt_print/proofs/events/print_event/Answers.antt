use Rattle.std.proofs.Common.{append-nil}
use Rattle.salt_ast.proofs.Joins.{◌⨾◌}
use Rattle.salt_print.proofs.events.print_event.Goals as goal

pub returns-clause-prints : goal.returns-clause-prints
returns-clause-prints g c = rw append-nil at (c.print_whole.ensures ⨾ c.flush.ensures.prints)
