use Rattle.law_states.specs.Rising.{Rising}
use Rattle.salt_conflicts.proofs.Naming.{rising-of}
use Rattle.salt_conflicts.proofs.programs.Programs.are_older.Goals as goal
use Rattle.salt_values.specs.declared.id.Id.{Id}
use Rattle.std.proofs.Common.{List, [], subst, sym, ◌++◌, ◌∷◌}

pub are_all_older-requires : goal.are_all_older-requires
are_all_older-requires c = subst Rising (sym c.as_slice.ensures) (rising-of c.args.self.now.names (c.args.self.now.known c.if-self.true))

pub returns-then-self : goal.returns-then-self
returns-then-self c = λ yes. subst (λ (l : List Id). Rising (l ++ c.args.name ∷ [])) c.as_slice.ensures (c.are_all_older.ensures yes)
