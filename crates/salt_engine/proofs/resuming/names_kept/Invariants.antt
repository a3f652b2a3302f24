use Rattle.salt_engine.proofs.resuming.names_kept.Given as goal
use Rattle.salt_engine.specs.Resuming.{AreCalled}
use Rattle.std.specs.Prelude.{take}

abbrev pub invariant-loop-cont : goal.invariant-loop-cont
invariant-loop-cont l = AreCalled l.called (take l.cont-index l.conts)
