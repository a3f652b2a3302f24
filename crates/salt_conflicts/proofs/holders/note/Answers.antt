use Rattle.law_states.specs.Members.{In}
use Rattle.law_story.proofs.Lists.{in-left, in-right}
use Rattle.salt_conflicts.proofs.Holding.{in-among}
use Rattle.salt_conflicts.proofs.holders.note.Goals as goal
use Rattle.salt_conflicts.specs.Holders.{is_among}
use Rattle.salt_model.specs.declared.events.Owner.{Owner}
use Rattle.std.proofs.Common.{List, [], ap, inl, refl, subst, sym, ◌∙◌, ◌∷◌}

pub returns-then-is_among-clause-noted : goal.returns-then-is_among-clause-noted
returns-then-is_among-clause-noted c =
    in-among c.args.owner c.args.owners.now.items (sym (c.is_among.ensures ∙ ap (is_among c.args.owner) c.deref.ensures.value) ∙ c.if-is_among.true)

pub returns-clause-noted : goal.returns-clause-noted
returns-clause-noted c =
    subst (λ (os : List Owner). In c.args.owner os) (sym c.in_ok-push.ensures.items)
    (in-right c.args.owner c.args.owners.now.items (c.args.owner ∷ []) (inl refl))

pub returns-clause-others : goal.returns-clause-others
returns-clause-others c = λ o i.
    subst (λ (os : List Owner). In o os) (sym c.in_ok-push.ensures.items) (in-left o c.args.owners.now.items (c.args.owner ∷ []) i)
