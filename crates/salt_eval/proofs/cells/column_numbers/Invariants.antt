use Rattle.salt_eval.proofs.cells.column_numbers.Given as goal
use Rattle.salt_eval.specs.Cells.{AreNumbersOf}
use Rattle.std.proofs.Common.{take}

abbrev pub invariant-loop-name : goal.invariant-loop-name
invariant-loop-name l = AreNumbersOf l.columns (take l.name-index l.names) l.numbers
