use Rattle.rows_exprs.proofs.judge.Given as goal
use Rattle.salt_io.specs.Lines.{IsReadingOf}

abbrev pub invariant-loop : goal.invariant-loop
invariant-loop g l = IsReadingOf l.lines (g.S.Source.left l.source)
