-- What stands on disks stands on them when a step's name is written down.
use Rattle.salt_bytes.specs.Generations.{WhichLog}
use Rattle.salt_decisions.specs.Decisions.{IsDecisions}
use Rattle.salt_decisions.specs.declared.decisions.Decisions.{Decisions}
use Rattle.salt_disk.specs.MemDisks.{seen}
use Rattle.salt_disk.specs.declared.memory.MemDisks.{MemDisks}
use Rattle.salt_partition.specs.Partitions.{IsPartition}
use Rattle.salt_partition.specs.declared.partition.Partition.{Partition}
use Rattle.salt_stands.specs.CoordinatorLog.{CoordinatorLog}
use Rattle.salt_stands.specs.Pieces.{PartView}
use Rattle.salt_values.specs.declared.id.Id.{Id}
use Rattle.std.proofs.Common.{List, subst, sym, ℕ, ◌≡◌}

pub same_log : {a b : MemDisks} {x : Decisions} {which : WhichLog} {log : CoordinatorLog} → b ≡ a → IsDecisions (seen a) x which log → IsDecisions (seen b) x which log
same_log {x = x} {which = which} {log = log} same is = subst (λ (m : MemDisks). IsDecisions (seen m) x which log) (sym same) is

pub same_part : {a b : MemDisks} {x : Partition} {p : ℕ} {v : PartView} {applied : List Id} → b ≡ a → IsPartition (seen a) x p v applied → IsPartition (seen b) x p v applied
same_part {x = x} {p = p} {v = v} {applied = applied} same is = subst (λ (m : MemDisks). IsPartition (seen m) x p v applied) (sym same) is
