use Rattle.law_states.specs.Rising.{Rising}
use Rattle.salt_conflicts.proofs.Naming.{rising-of}
use Rattle.salt_conflicts.proofs.programs.Programs.has.Goals as goal
use Rattle.std.proofs.Common.{subst, sym}

pub is_among-requires : goal.is_among-requires
is_among-requires c = subst Rising (sym c.as_slice.ensures) (rising-of c.args.self.now.names (c.args.self.now.known c.if-self.true))
