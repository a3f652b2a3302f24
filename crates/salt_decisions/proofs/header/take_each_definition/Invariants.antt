use Rattle.salt_bytes.specs.Coordinator.{take_numbered}
use Rattle.salt_decisions.specs.Header.{numbered_of}
use Rattle.salt_codec.proofs.Values.{Took}
use Rattle.salt_decisions.proofs.header.take_each_definition.Given as goal
use Rattle.std.specs.Prelude.{map}

abbrev pub invariant-loop-taken : goal.invariant-loop-taken
invariant-loop-taken l = Took take_numbered l.count l.bytes (map numbered_of l.definitions) l._taken l.rest
