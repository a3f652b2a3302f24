use Rattle.bench_devices.proofs.logs.opened.Given as goal
use Rattle.salt_disk.specs.MemDisks.{seen}
use Rattle.std.proofs.Common.{◌<◌}

abbrev pub invariant-loop-time : goal.invariant-loop-time
invariant-loop-time l = 0 < (seen l.disks).count
