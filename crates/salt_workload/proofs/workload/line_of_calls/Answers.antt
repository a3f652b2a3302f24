use Rattle.std.proofs.Common.{arith}
use Rattle.salt_workload.proofs.Blocks.{slice_get-calls}
use Rattle.salt_workload.proofs.workload.line_of_calls.Goals as goal

pub returns : goal.returns
returns c =
    let over = c.calls_over-over.result in
    let before = c.lines_through.result in
    let there = slice_get-calls c.args.n over before c.args.at (omega arith) (omega arith) (omega arith) (omega arith) in
    rw there c.call_line.ensures
