use Rattle.rows_logs.proofs.append_all.Given as goal
use Rattle.salt_disk.specs.MemDisks.{seen}
use Rattle.salt_gatelog.specs.Log.{IsLog}
use Rattle.std.proofs.Common.{List, ℕ, ◌≡◌}

abbrev pub invariant-loop-payload : goal.invariant-loop-payload
invariant-loop-payload l = record { is_log : (entries : List (List ℕ)) × IsLog (seen l.disks) l.log entries; count : (seen l.disks).count ≡ (seen l.fn.disks).count }
