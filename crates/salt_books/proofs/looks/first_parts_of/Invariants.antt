use Rattle.salt_books.proofs.looks.first_parts_of.Given as goal
use Rattle.salt_books.specs.declared.held.Held.{Held}
use Rattle.salt_model.specs.Units.{program_begun}
use Rattle.std.proofs.Common.{drop, ◌++◌, ◌≡◌}
use Rattle.std.specs.List.{filter_map}

abbrev pub invariant-loop-held : goal.invariant-loop-held
invariant-loop-held l =
    l.bases.items ++ filter_map (λ (h : Held). program_begun h.kind) (drop l.held-index l.units) ≡ filter_map (λ (h : Held). program_begun h.kind) l.units
