use Rattle.salt_directory.proofs.page.load_page.Given as goal
use Rattle.salt_directory.specs.Loading.{rows_within}
use Rattle.salt_loaded.specs.Rows.{with_rows}
use Rattle.std.proofs.Common.{take, ◌≡◌}

abbrev pub invariant-loop-i : goal.invariant-loop-i
invariant-loop-i l = l.out ≡ with_rows (rows_within l.fn.out.table l.range (take l.i l.page)) l.fn.out
