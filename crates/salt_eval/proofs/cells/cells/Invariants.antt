use Rattle.salt_eval.proofs.cells.cells.Given as goal
use Rattle.salt_eval.specs.Cells.{cells_at}
use Rattle.std.proofs.Common.{take, ◌≡◌}

abbrev pub invariant-loop-number : goal.invariant-loop-number
invariant-loop-number g l = l.values ≡ cells_at (g.R.Cells.cells l.row) (take l.number-index l.numbers)
