use Rattle.bench_devices.proofs.part.unit_changes.Given as goal
use Rattle.salt_bytes.specs.Spellable.{Every}
use Rattle.salt_codec.specs.Entries.{HasRow}

abbrev pub invariant-loop-i : goal.invariant-loop-i
invariant-loop-i l = Every HasRow l.changes.items
