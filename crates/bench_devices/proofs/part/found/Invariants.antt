use Rattle.bench_devices.proofs.part.found.Given as goal
use Rattle.salt_disk.specs.MemDisks.{seen}
use Rattle.salt_partition.specs.Partitions.{StandsOnDevices}

abbrev pub invariant-loop-key : goal.invariant-loop-key
invariant-loop-key l = StandsOnDevices (seen l.disks) l.part
