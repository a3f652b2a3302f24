use Rattle.test_devices.proofs.disks.writes_are_counted.Given as goal
use Rattle.salt_disk.specs.MemDisks.{seen}
use Rattle.std.proofs.Common.{◌<◌}

abbrev pub invariant-loop-want : goal.invariant-loop-want
invariant-loop-want g l = 0 < (seen l.disks).count
