use Rattle.law_states.specs.KeptSources.{itself}
use Rattle.salt_deps.proofs.Showing.{is-kept}
use Rattle.salt_deps.proofs.deps.Deps.new.Goals as goal
use Rattle.salt_values.specs.Id.{has_id}
use Rattle.salt_values.specs.declared.id.Id.{Id}
use Rattle.std.proofs.Common.{List, [], ap, subst, true, ◌∙◌, ◌≡◌}

pub invariant_of-result : goal.invariant_of-result
invariant_of-result c t b s = let no : has_id b [] ≡ true = subst (λ (l : List Id). has_id b l ≡ true) c.new-3.ensures.empty (s b itself) in absurd cc

pub returns : goal.returns
returns c =
    is-kept c.new.result.last c.new-2.result c.new-3.result.keys
    ∙ (λ i. record {
      writer = λ q. c.new.ensures q i;
      reads = λ x y. c.new-2.ensures x y i;
      finished = λ b. ap (λ (l : List Id). has_id b l) c.new-3.ensures.empty i;
    })
