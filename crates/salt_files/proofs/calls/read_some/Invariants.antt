use Rattle.salt_files.proofs.calls.read_some.Given as goal
use Rattle.std.proofs.Common.{length, ◌≡◌}
use Rattle.std.specs.Io.KnownBytes.{Keeps}

abbrev pub invariant-loop : goal.invariant-loop
invariant-loop g l = record {
  kept : Keeps (g.F.Read.remaining l.fn.file) (g.F.Read.remaining l.file);
  size : length l.buf ≡ length l.fn.buf;
}
