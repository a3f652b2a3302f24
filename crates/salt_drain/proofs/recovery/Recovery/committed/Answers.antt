use Rattle.salt_drain.proofs.recovery.Recovery.committed.Goals as goal
use Rattle.salt_books.specs.Held.{seen}
use Rattle.law_states.specs.OpenUnits.{OpenUnit}
use Rattle.law_states.specs.Steps.{units_after}
use Rattle.law_states.specs.Told.{next_decision_number}
use Rattle.salt_model.specs.Kept.{conts_committed}
use Rattle.salt_model.specs.declared.events.End.TheVariants.{Committed}
use Rattle.salt_model.specs.declared.events.Event.TheVariants.{Ended}
use Rattle.salt_drain.proofs.Done.{gives}
use Rattle.salt_drain.proofs.Follows.{commit-drain, committed}
use Rattle.salt_books.proofs.Named.{named-unit, rising}
use Rattle.salt_drain.specs.Follows.{FollowsOn}
use Rattle.salt_drain.specs.Recovering.{IsOfDrain}
use Rattle.salt_drain.specs.declared.behind.Behind.{Behind}
use Rattle.std.proofs.Common.{subst, sym}
use Rattle.std.specs.Prelude.{Some, refl}

pub returns : goal.returns
returns c = λ s o number stands r named moves.
    let u = c.args.unit in
    let n = next_decision_number s.units in
    let e = Ended u (Committed n) in
    let held : OpenUnit = seen c.held-held.result.now in
    let follows = committed u n s.units (units_after e s.units) held (c.held-held.ensures s.units stands.books) in
    gives e _ _ s _ r (λ i. Ended u (Committed (number i)))
    (λ i. Some (Ended (sym (named-unit u s.units.units o named) i) (Committed n))) refl
    (record {
      books = c.in_ok-commit.ensures s.units o (conts_committed s.units.kept n o.kind o.vars) number stands.books (rising s r.sound) named moves refl;
      opening = stands.opening;
      single = stands.single;
      drain = subst (λ (b : Behind). IsOfDrain b (units_after e s.units)) (sym c.behind_commit-behind.ensures) (commit-drain held.kind (units_after e s.units));
    })
    (subst (λ (b : Behind). FollowsOn b e s.units (units_after e s.units)) (sym c.behind_commit-behind.ensures) follows)
