use Rattle.std.proofs.Common.{length, take, ◌-◌, ◌≡◌, ◌≤◌}
use Rattle.salt_io.specs.Collects.{Moves}
use Rattle.salt_io.proofs.buffer.WriteBuffer.put_in_pieces.Given as goal

abbrev pub invariant-loop-done : goal.invariant-loop-done
invariant-loop-done g l = record {
  within : l.done ≤ length l.bytes;
  moves : Moves (g.K.Sink.held l.fn.sink) l.fn.self (take l.done l.bytes) (g.K.Sink.held l.sink) l.self;
  same : g.K.Sink.faults l.sink ≡ g.K.Sink.faults l.fn.sink;
}

abbrev pub decreases-loop-done : goal.decreases-loop-done
decreases-loop-done g l = length l.bytes - l.done
