use Rattle.salt_bytes.specs.Spellable.{Every}
use Rattle.salt_codec.proofs.told.told_changes.Given as goal
use Rattle.salt_codec.specs.Entries.{IsTold}
use Rattle.std.proofs.Common.{take}

abbrev pub invariant-loop-change : goal.invariant-loop-change
invariant-loop-change l = Every IsTold (take l.change-index l.changes)
