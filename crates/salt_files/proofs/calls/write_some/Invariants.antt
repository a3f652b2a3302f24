use Rattle.salt_files.proofs.calls.write_some.Given as goal
use Rattle.std.specs.Io.KnownBytes.{Keeps}

abbrev pub invariant-loop : goal.invariant-loop
invariant-loop g l = Keeps (g.F.Write.contents l.fn.file) (g.F.Write.contents l.file)
