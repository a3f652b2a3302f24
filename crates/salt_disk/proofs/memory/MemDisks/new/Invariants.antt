use Rattle.salt_disk.specs.Device.{IsNew}
use Rattle.salt_disk.proofs.memory.MemDisks.new.Given as goal
use Rattle.std.proofs.Common.{length, ◌≡◌}
use Rattle.std.specs.Prelude.{All}

abbrev pub invariant-loop-dev : goal.invariant-loop-dev
invariant-loop-dev l = record { size : length l.made.items ≡ l._dev; each : All (IsNew l.limit) l.made.items }
