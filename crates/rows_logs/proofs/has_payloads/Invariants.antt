use Rattle.rows_logs.proofs.has_payloads.Given as goal
use Rattle.salt_disk.specs.MemDisks.{seen}
use Rattle.salt_gatelog.specs.Log.{IsLog, count_of}
use Rattle.std.proofs.Common.{List, ℕ, ◌≡◌}

abbrev pub invariant-loop-i : goal.invariant-loop-i
invariant-loop-i l = record { is_log : (entries : List (List ℕ)) × IsLog (seen l.disks) l.log entries; count : count_of l.log ≡ l.i-end }
