use Rattle.salt_pages.proofs.behind.each_is_printable.Given as goal
use Rattle.salt_values.specs.Text.{is_printable}
use Rattle.std.proofs.Common.{take, ◌≡◌}
use Rattle.std.specs.List.{list_all}

abbrev pub invariant-loop-k : goal.invariant-loop-k
invariant-loop-k l = l.so_far ≡ list_all is_printable (take l.k l.bytes)
