use Rattle.salt_deps.specs.Kept.{dependencies}
use Rattle.law_states.specs.DependencyCalls.{AreSame}
use Rattle.salt_conflicts.proofs.Same.{itself}
use Rattle.salt_conflicts.proofs.Holding.{unknown}
use Rattle.salt_conflicts.proofs.watching.Watching.new.Goals as goal
use Rattle.std.proofs.Common.{refl, subst, sym}
use Rattle.std.specs.Prelude.{false}

pub returns : goal.returns
returns c = record {
  table = sym c.new.ensures;
  taken = refl;
  waits = sym c.new-2.ensures.items;
  programs = sym c.new-3.ensures;
  dependencies = subst (AreSame (dependencies c.new-4.result)) c.new-4.ensures (itself (dependencies c.new-4.result));
}

pub invariant_of-result : goal.invariant_of-result
invariant_of-result c = unknown false c.new-5.result.items c.new.result c.new-2.result.items refl
