use Rattle.salt_bytes.specs.Values.{take_value}
use Rattle.salt_codec.proofs.Values.{Took}
use Rattle.salt_codec.proofs.take.take_values.Given as goal

abbrev pub invariant-loop-taken : goal.invariant-loop-taken
invariant-loop-taken l = Took (take_value l.nulls) l.count l.bytes l.values.items l._taken l.rest
