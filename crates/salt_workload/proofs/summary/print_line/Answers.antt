use Rattle.salt_ast.proofs.Joins.{◌⨾◌}
use Rattle.salt_ast.specs.Prints.{Prints}
use Rattle.salt_workload.proofs.Spelled.{spelled}
use Rattle.salt_workload.proofs.summary.print_line.Goals as goal
use Rattle.std.proofs.Common.{subst}

pub returns-clause-prints : goal.returns-clause-prints
returns-clause-prints g c =
    let counts = c.counts_of-counts.ensures in
    subst (Prints g.K.Sink.held g.K.Sink.faults c.args.out.now c.flush.new.self) (spelled c.args.calls c.args.lines c.args.story.now)
    (rw (← counts.units, ← counts.committed, ← counts.accepted, ← counts.released, ← counts.waits, ← counts.victims, ← c.last_value.ensures)
    (c.print_count.ensures ⨾ (c.print_count-2.ensures ⨾ (c.print_count-3.ensures ⨾ (c.print_count-4.ensures ⨾ (c.print_count-5.ensures ⨾
    (c.print_count-6.ensures ⨾ (c.print_count-7.ensures ⨾ (c.print_count-8.ensures ⨾ (c.print_total.ensures ⨾ (c.bytes.ensures ⨾ c.flush.ensures.prints)))))))))))
