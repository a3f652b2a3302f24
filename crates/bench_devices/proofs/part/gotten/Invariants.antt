use Rattle.bench_devices.proofs.part.gotten.Given as goal
use Rattle.salt_disk.specs.MemDisks.{seen}
use Rattle.salt_partition.specs.Partitions.{StandsOnDevices}

abbrev pub invariant-loop-time : goal.invariant-loop-time
invariant-loop-time l = StandsOnDevices (seen l.disks) l.part
