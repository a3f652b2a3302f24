use Rattle.bench_devices.proofs.part.read.Given as goal
use Rattle.salt_disk.specs.MemDisks.{seen}
use Rattle.std.proofs.Common.{◌<◌}

abbrev pub invariant-loop-time : goal.invariant-loop-time
invariant-loop-time l = 4 < (seen l.disks).count
