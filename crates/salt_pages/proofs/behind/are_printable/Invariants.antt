use Rattle.salt_pages.proofs.behind.are_printable.Given as goal
use Rattle.salt_values.specs.Text.{is_printable}
use Rattle.std.proofs.Common.{length, ◌≡◌}
use Rattle.std.specs.List.{list_all}

abbrev pub invariant-loop-eight : goal.invariant-loop-eight
invariant-loop-eight l = list_all is_printable l.bytes ≡ list_all is_printable l.rest

abbrev pub decreases-loop-eight : goal.decreases-loop-eight
decreases-loop-eight l = length l.rest
