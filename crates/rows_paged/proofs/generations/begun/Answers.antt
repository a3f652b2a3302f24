use Rattle.rows_paged.proofs.Staged.{none_behind}
use Rattle.rows_paged.proofs.generations.begun.Goals as goal
use Rattle.salt_disk.specs.MemDisks.{seen}
use Rattle.salt_stands.specs.FirstOpening.{first_view}
use Rattle.std.proofs.Common.{arith, refl}

pub create_partition-requires-clause-settled_a : goal.create_partition-requires-clause-settled_a
create_partition-requires-clause-settled_a c = c.requires.settled 2 (omega (arith, c.requires.known))

pub create_partition-requires-clause-settled_b : goal.create_partition-requires-clause-settled_b
create_partition-requires-clause-settled_b c = c.requires.settled 3 (omega (arith, c.requires.known))

pub commit-requires : goal.commit-requires
commit-requires c = record { p = 0; v = first_view 2 0; is = c.in_ok-part.ensures.made; none = refl; format = refl }

pub commit-requires-2 : goal.commit-requires-2
commit-requires-2 c =
    let s = c.in_ok-commit.ensures.stands in
    none_behind (seen c.commit.new.disks) (seen c.checkpoint.new.disks) c.checkpoint.new.self s.p s.v s.applied (c.in_ok-checkpoint.ensures.ok s.p s.v s.applied s.is)
