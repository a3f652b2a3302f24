use Rattle.bench_devices.proofs.part.append_units.Given as goal
use Rattle.salt_disk.specs.MemDisks.{seen}
use Rattle.salt_gatelog.specs.Log.{IsLog}
use Rattle.std.proofs.Common.{List, ℕ, ◌≡◌}

abbrev pub invariant-loop-number : goal.invariant-loop-number
invariant-loop-number l = record { is_log : (entries : List (List ℕ)) × IsLog (seen l.disks) l.log entries; count : (seen l.disks).count ≡ (seen l.fn.disks).count }
