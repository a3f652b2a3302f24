use Rattle.law_states.specs.DependencyCalls.{AreSame}
use Rattle.law_states.specs.KeptCover.{group_of}
use Rattle.law_states.specs.KeptSources.{itself}
use Rattle.salt_deps.proofs.Showing.{is-kept}
use Rattle.salt_deps.proofs.deps.Deps.of_group.Goals as goal
use Rattle.salt_values.specs.Id.{has_id, is_same_id}
use Rattle.salt_values.specs.declared.id.Id.{Id}
use Rattle.std.proofs.Common.{Bool, List, [], ap, false, not, refl, subst, sym, true, ◌&&◌, ◌∙◌, ◌≡◌}

move : (a b c : Bool) → ((a && b) && c) ≡ (a && (b && c))
move true b c = refl
move false b c = refl

pub invariant_of-result : goal.invariant_of-result
invariant_of-result c t b s = let no : has_id b [] ≡ true = subst (λ (l : List Id). has_id b l ≡ true) c.new-2.ensures.empty (s b itself) in absurd cc

pub returns : goal.returns
returns c =
    subst (AreSame (group_of c.args.names.now)) (sym (is-kept c.new.result.last c.in_ok-readings.readings c.new-2.result.keys))
    (record {
      writer = λ q. c.new.ensures q;
      reads = λ x y.
          let named = c.args.names.now in
          let is = c.in_ok-readings.ensures x y ∙ sym (move (has_id x named) (has_id y named) (not (is_same_id y x))) in
          ((λ h. sym is ∙ h), (λ h. is ∙ h));
      finished = λ b. let is : has_id b c.new-2.result.keys ≡ false = ap (λ (l : List Id). has_id b l) c.new-2.ensures.empty in ((λ h. sym is ∙ h), (λ h. is ∙ h));
    })
