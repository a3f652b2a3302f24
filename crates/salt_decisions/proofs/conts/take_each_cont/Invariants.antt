use Rattle.salt_bytes.specs.Conts.{take_cont}
use Rattle.salt_codec.proofs.Values.{Took}
use Rattle.salt_decisions.proofs.conts.take_each_cont.Given as goal

abbrev pub invariant-loop-taken : goal.invariant-loop-taken
invariant-loop-taken l = Took (take_cont l.format) l.count l.bytes l.conts l._taken l.rest
