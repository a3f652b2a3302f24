use Rattle.salt_conflicts.proofs.Naming.{rising-at, rising-of}
use Rattle.salt_conflicts.proofs.programs.Programs.drop_all.Goals as goal

pub drop_each-requires : goal.drop_each-requires
drop_each-requires c = rising-of c.args.self.now.names (c.args.self.now.known c.if-self.true)

pub invariant_of-self : goal.invariant_of-self
invariant_of-self c = record { known = λ is. rising-at c.drop_each.new.names c.drop_each.ensures.rising }
