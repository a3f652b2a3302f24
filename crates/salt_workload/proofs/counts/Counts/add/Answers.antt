use Rattle.salt_workload.proofs.Counting.{fits-one}
use Rattle.salt_workload.proofs.counts.Counts.add.Goals as goal
use Rattle.std.proofs.Common.{arith}
use Rattle.salt_workload.specs.Summary.{is_accepted, is_began, is_committed, is_victim, is_waits}

pub overflow_add-self : goal.overflow_add-self
overflow_add-self c = let fits = fits-one is_began c.args.self.now.units c.requires.0 c.requires.1.units c.requires.2 in omega (arith, fits)

pub overflow_add-self-in-Ended-default-Committed : goal.overflow_add-self-in-Ended-default-Committed
overflow_add-self-in-Ended-default-Committed c = let fits = fits-one is_committed c.args.self.now.committed c.requires.0 c.requires.1.committed c.requires.2 in omega (arith, fits)

pub overflow_add-self-in-Ended-default-Victim : goal.overflow_add-self-in-Ended-default-Victim
overflow_add-self-in-Ended-default-Victim c = let fits = fits-one is_victim c.args.self.now.victims c.requires.0 c.requires.1.victims c.requires.2 in omega (arith, fits)

pub overflow_add-self-in-Accepted : goal.overflow_add-self-in-Accepted
overflow_add-self-in-Accepted c = let fits = fits-one is_accepted c.args.self.now.accepted c.requires.0 c.requires.1.accepted c.requires.2 in omega (arith, fits)

pub overflow_add-self-in-Waits : goal.overflow_add-self-in-Waits
overflow_add-self-in-Waits c = let fits = fits-one is_waits c.args.self.now.waits c.requires.0 c.requires.1.waits c.requires.2 in omega (arith, fits)
