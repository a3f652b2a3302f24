use Rattle.salt_books.proofs.ids.bases_in.Given as goal
use Rattle.salt_books.specs.Bases.{bases_in}
use Rattle.std.proofs.Common.{take, ◌≡◌}

abbrev pub invariant-loop-cont : goal.invariant-loop-cont
invariant-loop-cont l = l.ids.items ≡ bases_in (take l.cont-index l.conts)
