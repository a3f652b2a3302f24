use Rattle.salt_drain.proofs.recovery.Recovery.begin.Goals as goal
use Rattle.law_states.specs.Steps.{units_after}
use Rattle.law_states.specs.Told.{begins_in, next_unit}
use Rattle.salt_model.specs.declared.events.Event.TheVariants.{Began}
use Rattle.salt_model.specs.declared.events.UnitKind.TheVariants.{Later}
use Rattle.salt_drain.proofs.Done.{gives}
use Rattle.salt_drain.proofs.Follows.{began, began-part}
use Rattle.salt_drain.specs.Follows.{FollowsOn}
use Rattle.salt_drain.specs.Recovering.{IsPartIfOpen}
use Rattle.salt_drain.specs.declared.behind.Behind.TheVariants.{Turn}
use Rattle.std.proofs.Common.{subst, sym}
use Rattle.std.specs.Prelude.{refl}

pub returns : goal.returns
returns c = λ s stands r none.
    let kind = Later c.args.base c.args.part in
    let name = c.in_ok-unit.ensures.name s.units stands.books in
    let u = next_unit s.units in
    let new = units_after (begins_in s.units kind) s.units in
    gives (begins_in s.units kind) _ _ s _ r (λ i. Began (name i) kind) refl refl
    (record {
      books = c.in_ok-unit.ensures.state s.units stands.books stands.single;
      opening = stands.opening;
      single = stands.single;
      drain = subst (λ v. IsPartIfOpen new v) (sym name) (began-part u c.args.base c.args.part s.units none);
    })
    (subst (λ v. FollowsOn (Turn v) (begins_in s.units kind) s.units new) (sym name) (began u kind s.units new))
