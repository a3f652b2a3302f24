use Rattle.salt_bytes.specs.Spellable.{Every}
use Rattle.salt_codec.proofs.told.told_row.Given as goal
use Rattle.salt_values.specs.Value.{IsValue}
use Rattle.std.proofs.Common.{take}

abbrev pub invariant-loop-value : goal.invariant-loop-value
invariant-loop-value l = Every IsValue (take l.value-index l.row)
