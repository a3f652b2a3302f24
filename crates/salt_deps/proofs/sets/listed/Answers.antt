use Rattle.salt_deps.proofs.Names.{rising}
use Rattle.salt_deps.proofs.Seeing.{append-none}
use Rattle.salt_deps.proofs.sets.listed.Goals as goal
use Rattle.law_states.specs.Rising.{Rising}
use Rattle.salt_values.specs.declared.id.Id.{Id}
use Rattle.std.proofs.Common.{List, ap, subst, sym, ◌++◌, ◌∙◌}

pub returns-clause-order : goal.returns-clause-order
returns-clause-order c =
    let names = c.loop-name.names.items in
    let are = append-none names ∙ (ap (λ (l : List Id). names ++ l) (sym {A = List Id} c.in-None.ensures.steps.0) ∙ c.loop-name.invariant) in
    subst Rising (sym are) (rising c.args.set.now.keys c.into_iter-name-iterator.ensures.into_iter_gives.4)
