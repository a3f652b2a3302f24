use Rattle.salt_files.proofs.calls.seek_to.Given as goal
use Rattle.std.specs.Io.Seek.{StaysAt}

abbrev pub invariant-loop : goal.invariant-loop
invariant-loop g l = StaysAt (g.F.Seek.stream_position l.fn.file) (g.F.Seek.stream_position l.file)
