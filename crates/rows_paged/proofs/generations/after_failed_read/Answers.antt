use Rattle.rows_paged.proofs.generations.after_failed_read.Goals as goal
use Rattle.rows_paged.specs.Stages.{AreSettled}
use Rattle.salt_disk.specs.MemDisks.{seen}
use Rattle.salt_disk.specs.declared.memory.MemDisks.{MemDisks}
use Rattle.std.proofs.Common.{ap, arith, subst, sym}

pub after_failure-requires-clause-known : goal.after_failure-requires-clause-known
after_failure-requires-clause-known c = omega (arith, ap (λ (m : MemDisks). (seen m).count) c.in_ok-fail_read.ensures.ok, c.in_ok-disks.ensures.new.count_is)

pub after_failure-requires-clause-settled : goal.after_failure-requires-clause-settled
after_failure-requires-clause-settled c = subst (λ (m : MemDisks). AreSettled (seen m)) (sym c.in_ok-fail_read.ensures.ok) (λ dev low. c.in_ok-disks.ensures.new.settled dev)
