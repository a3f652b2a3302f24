use Rattle.rows_files.proofs.lines_of.Given as goal
use Rattle.salt_gatelog.specs.Log.{IsLog, count_of}
use Rattle.std.proofs.Common.{List, ℕ, ◌≡◌}

abbrev pub invariant-loop-i : goal.invariant-loop-i
invariant-loop-i g l = record { is_log : (entries : List (List ℕ)) × IsLog (g.D.Disks.view l.disks) l.log entries; count : count_of l.log ≡ l.i-end }
