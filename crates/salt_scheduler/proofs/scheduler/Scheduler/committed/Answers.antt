use Rattle.salt_scheduler.proofs.scheduler.Scheduler.committed.Goals as goal
use Rattle.salt_books.specs.Held.{seen}
use Rattle.law_states.specs.OpenUnits.{OpenUnit}
use Rattle.law_states.specs.Told.{next_decision_number}
use Rattle.law_states.specs.UnitFacts.{facts_in}
use Rattle.salt_model.specs.Kept.{conts_committed}
use Rattle.salt_model.specs.Units.{program_of_kind}
use Rattle.salt_model.specs.declared.events.End.TheVariants.{Committed}
use Rattle.salt_model.specs.declared.events.Event.TheVariants.{Ended}
use Rattle.salt_scheduler.proofs.Calm.{none-told}
use Rattle.salt_scheduler.proofs.EndsDone.{commit-gives, ended-base, ended-places, one-found}
use Rattle.salt_books.proofs.Named.{rising}
use Rattle.salt_scheduler.specs.Follows.{behind_commit}
use Rattle.salt_conflicts.specs.Watched.{place_of}
use Rattle.std.proofs.Common.{ap, sym, ◌∙◌}
use Rattle.std.specs.Prelude.{Some, map, refl, ◌≡◌}

pub returns : goal.returns
returns c = λ s o number stands sound named made.
    let is : o ≡ seen c.held-held.result.now = one-found _ o (seen c.held-held.result.now) named (c.held-held.ensures s.units stands.books) in
    let e = Ended c.args.unit (Committed (next_decision_number s.units)) in
    commit-gives c.args.self.now _ c.args.unit o c.is_none.result s _ stands named
    (λ i. Some (Ended c.args.unit (Committed (number i))))
    (c.in_ok-commit-2.ensures s.units o (conts_committed s.units.kept (next_decision_number s.units) o.kind o.vars) number stands.books (rising s sound) named made refl)
    (c.in_ok-commit.ensures s.watch (facts_in s.units e) (next_decision_number s.units) stands.watch
    (ended-base s.units c.args.unit (Committed (next_decision_number s.units)) o named ∙ ap (λ (o : OpenUnit). program_of_kind o.kind) is ∙ sym c.program_of-base.ensures)
    (ended-places s.units c.args.unit (Committed (next_decision_number s.units)) o c.held-held.result.now.open.changes.items named (ap (λ (o : OpenUnit). o.changes) is)
    ∙ ap (map place_of) (sym c.changes.ensures.changes)))
    refl
    (c.behind_commit-follow.ensures ∙ ap (λ (o : OpenUnit). behind_commit o.kind) (sym is))
    (λ acid. ap (λ (o : OpenUnit). program_of_kind o.kind) is ∙ (sym c.program_of-base.ensures ∙ none-told c.program_of-base.result c.is_none.result c.is_none.ensures acid))
    c.is_calm_behind-self.ensures
