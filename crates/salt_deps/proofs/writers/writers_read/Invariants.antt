use Rattle.salt_deps.proofs.Reading.{IsReading}
use Rattle.salt_deps.proofs.writers.writers_read.Given as goal

abbrev pub invariant-loop-place : goal.invariant-loop-place
invariant-loop-place l = IsReading l.reader l.table l.range l.writers.entries l.found.keys l.place-iterator
