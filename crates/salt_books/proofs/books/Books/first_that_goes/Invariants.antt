use Rattle.salt_books.proofs.books.Books.first_that_goes.Given as goal
use Rattle.salt_books.specs.Books.{AreBooks}
use Rattle.law_states.specs.OpenUnits.{UnitState, can_go_in}
use Rattle.std.proofs.Common.{drop, ◌≡◌}
use Rattle.std.specs.List.{find}

abbrev pub invariant-loop-base : goal.invariant-loop-base
invariant-loop-base l = (s : UnitState) → AreBooks l.self s → find (can_go_in s) (drop l.base-index l.bases) ≡ find (can_go_in s) l.bases
