use Rattle.salt_bytes.specs.Changes.{take_change}
use Rattle.salt_codec.proofs.Values.{Took}
use Rattle.salt_codec.proofs.changes.take_each_change.Given as goal

abbrev pub invariant-loop-taken : goal.invariant-loop-taken
invariant-loop-taken l = Took (take_change l.nulls) l.count l.bytes l.changes.items l._taken l.rest
