use Rattle.salt_loaded.proofs.Columns.{Passed}
use Rattle.salt_loaded.proofs.spelled.column_in.Given as goal

abbrev pub invariant-loop-passed : goal.invariant-loop-passed
invariant-loop-passed l = Passed l.row l._passed l.rest
