use Rattle.salt_audit.specs.Standing.{is_formed_at}
use Rattle.salt_model.specs.declared.events.Event.{Event}
use Rattle.salt_verdict.proofs.Commits.{is_commit}
use Rattle.salt_verdict.proofs.steps.take_event.Goals as goal
use Rattle.salt_verdict.specs.After.{IsAfter}
use Rattle.std.proofs.Common.{subst, sym, true, ◌∙◌, ◌≡◌}

pub take_commit-requires-clause-formed : goal.take_commit-requires-clause-formed
take_commit-requires-clause-formed c =
    subst (λ (e : Event). is_formed_at c.args.ledger.now.state e ≡ true) (is_commit c.args.event.now c.in-Some.commit (sym c.commit_in.ensures ∙ c.in-Some.is)) c.requires.formed

pub take_other-requires-clause-other : goal.take_other-requires-clause-other
take_other-requires-clause-other c = sym c.commit_in.ensures ∙ c.in-None.is

pub returns-in_ok-take_commit-in-Some-clause-after : goal.returns-in_ok-take_commit-in-Some-clause-after
returns-in_ok-take_commit-in-Some-clause-after c =
    subst (IsAfter c.args.ledger.now c.take_commit.new.ledger) (sym (is_commit c.args.event.now c.in-Some.commit (sym c.commit_in.ensures ∙ c.in-Some.is))) c.in_ok-take_commit-in-Some.ensures.after
