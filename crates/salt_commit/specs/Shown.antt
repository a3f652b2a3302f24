-- What a value of `Store` shows: the coordinator's log, the partitions in order of their numbers, and the turns of the net that commits go
-- over, where they do.
use Rattle.salt_decisions.specs.declared.decisions.Decisions.{Decisions}
use Rattle.salt_net.specs.Paces.{Pace}
use Rattle.salt_paged.specs.declared.partition.Partition.{Partition}
use Rattle.std.specs.Prelude.{List, Option}

pub record Shown : Type 0 where
  pub decisions : Decisions
  pub parts : List Partition
  pub messages : Option Pace
