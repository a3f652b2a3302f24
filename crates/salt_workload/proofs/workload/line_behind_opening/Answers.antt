use Rattle.std.proofs.Common.{arith}
use Rattle.salt_workload.proofs.Blocks.{slice_get-behind_calls, slice_get-within_calls}
use Rattle.salt_workload.proofs.workload.line_behind_opening.Goals as goal

pub returns-then-at-lines : goal.returns-then-at-lines
returns-then-at-lines c = rw (slice_get-within_calls c.args.n c.args.at (omega arith)) c.line_of_calls.ensures

pub returns-else-at-lines : goal.returns-else-at-lines
returns-else-at-lines c = rw (slice_get-behind_calls c.args.n c.args.at (omega arith), ← c.lines_through-lines.ensures) c.closing_line.ensures
