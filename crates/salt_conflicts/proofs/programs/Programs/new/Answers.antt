use Rattle.law_states.specs.Rising.{Rising}
use Rattle.salt_conflicts.proofs.Naming.{none-rise, rising-at}
use Rattle.salt_conflicts.proofs.programs.Programs.new.Goals as goal
use Rattle.std.proofs.Common.{subst, sym, ◌∙◌}

pub invariant_of-result : goal.invariant_of-result
invariant_of-result c = record {
  known = λ is. rising-at c.from_vec.result (subst Rising (sym c.from_vec.ensures) (subst Rising c.as_slice.ensures.value (none-rise c.as_slice.result.now (sym c.is_empty-rising.ensures ∙ is))));
}
