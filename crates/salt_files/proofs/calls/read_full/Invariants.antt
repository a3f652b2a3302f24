use Rattle.salt_files.proofs.calls.read_full.Given as goal
use Rattle.std.proofs.Common.{length, take, ◌-◌, ◌≡◌, ◌≤◌}
use Rattle.std.specs.Io.KnownBytes.{Consumes}

abbrev pub invariant-loop-count : goal.invariant-loop-count
invariant-loop-count g l = record {
  size : length l.buf ≡ length l.fn.buf;
  within : l.count ≤ length l.buf;
  taken : Consumes (g.F.Read.remaining l.fn.file) (g.F.Read.remaining l.file) (take l.count l.buf);
}

abbrev pub decreases-loop-count : goal.decreases-loop-count
decreases-loop-count g l = length l.buf - l.count
