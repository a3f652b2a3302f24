use Rattle.bench_devices.proofs.logs.append_numbers.Given as goal
use Rattle.salt_disk.specs.MemDisks.{seen}
use Rattle.salt_gatelog.specs.Log.{IsLog}
use Rattle.std.proofs.Common.{List, ℕ, ◌≡◌}

abbrev pub invariant-loop-i : goal.invariant-loop-i
invariant-loop-i l = record { is_log : (entries : List (List ℕ)) × IsLog (seen l.disks) l.log entries; count : (seen l.disks).count ≡ (seen l.fn.disks).count }
