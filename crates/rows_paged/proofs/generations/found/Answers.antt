use Rattle.rows_paged.proofs.Staged.{named_settled}
use Rattle.rows_paged.proofs.generations.found.Goals as goal
use Rattle.salt_disk.specs.MemDisks.{seen}
use Rattle.std.proofs.Common.{arith}

pub open_partition-requires-clause-settled_a : goal.open_partition-requires-clause-settled_a
open_partition-requires-clause-settled_a c = c.requires.settled 2 (omega (arith, c.requires.known))

pub open_partition-requires-clause-settled_b : goal.open_partition-requires-clause-settled_b
open_partition-requires-clause-settled_b c = c.requires.settled 3 (omega (arith, c.requires.known))

pub open_partition-requires-clause-named : goal.open_partition-requires-clause-named
open_partition-requires-clause-named c told = named_settled (seen c.args.disks.now) 0 (c.requires.settled 4 c.requires.known)

pub get-requires : goal.get-requires
get-requires c = let o = c.in_ok-part.ensures.opens in record { p = 0; v = o.view; applied = c.in_ok-decided.decided; is = o.is }
