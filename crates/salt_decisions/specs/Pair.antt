-- The pair that was read is the coordinator's.
use Rattle.salt_bytes.specs.Generations as pair
use Rattle.salt_bytes.specs.Generations.{Pair, WhichLog}
use Rattle.salt_decisions.specs.Read.{IsReadLog}
use Rattle.salt_decisions.specs.Which.{which_in}
use Rattle.salt_decisions.specs.declared.pair.LogPair.TheVariants.{BothBlank, Counts, Faulty}
use Rattle.salt_decisions.specs.declared.pair.LogPair.{LogPair}
use Rattle.salt_decisions.specs.declared.read.Content.TheVariants.{Blank, Log, Outside}
use Rattle.salt_decisions.specs.declared.read.Content.{Content}
use Rattle.salt_decisions.specs.declared.read.ReadLog.{ReadLog}
use Rattle.salt_disk.specs.Disks.{View}
use Rattle.salt_stands.specs.Coordinator.{coordinator_pair, device_of}
use Rattle.salt_stands.specs.Stands.{logs_of}
use Rattle.std.specs.Prelude.{IsTrue, ℕ, ◌≡◌}

abbrev pub generation_of : ReadLog → ℕ
generation_of r = r.generation

abbrev pub contents : Content → pair.Content ReadLog
contents Blank = pair.Blank
contents (Log r) = pair.IsRead r
contents Outside = pair.Outside

abbrev pub pair_in : LogPair → Pair ReadLog
pair_in BothBlank = pair.BothBlank
pair_in (Counts which r) = pair.Counts (which_in which) r
pair_in (Faulty which) = pair.Faulty (which_in which)

-- this log was read, and counts
pub record IsCounted (d : View) (which : WhichLog) (r : ReadLog) : Type 0 where
  pub read : IsReadLog d (device_of 0 which) r
  pub counts : IsTrue d.told → coordinator_pair (logs_of d.bytes) ≡ pair.Counts which read.log

abbrev pub HasPair : View → Pair ReadLog → Type 0
HasPair d pair.BothBlank = IsTrue d.told → coordinator_pair (logs_of d.bytes) ≡ pair.BothBlank
HasPair d (pair.Counts which r) = IsCounted d which r
HasPair d (pair.Faulty which) = IsTrue d.told → coordinator_pair (logs_of d.bytes) ≡ pair.Faulty which
