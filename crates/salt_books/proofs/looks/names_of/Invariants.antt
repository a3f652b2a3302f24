use Rattle.salt_books.proofs.looks.names_of.Given as goal
use Rattle.salt_books.specs.declared.held.Held.{Held}
use Rattle.std.proofs.Common.{take, ◌≡◌}
use Rattle.std.specs.Prelude.{map}

abbrev pub invariant-loop-held : goal.invariant-loop-held
invariant-loop-held l = l.names.items ≡ map (λ (h : Held). h.open.unit) (take l.held-index l.units)
