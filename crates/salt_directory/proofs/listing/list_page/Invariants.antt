use Rattle.salt_directory.proofs.Listed.{ListedSoFar}
use Rattle.salt_directory.proofs.listing.list_page.Given as goal

abbrev pub invariant-loop-i : goal.invariant-loop-i
invariant-loop-i g l = ListedSoFar (g.J.RowJudge.sound l.judge) l.fn.directory l.directory l.number l.page l.i
