use Rattle.salt_drain.proofs.recovery.Recovery.follow_up.Goals as goal
use Rattle.salt_drain.proofs.Chosen.{gives-same, told}
use Rattle.salt_drain.specs.Follows.{event_of}
use Rattle.salt_drain.specs.Recovering.{IsPlain}
use Rattle.salt_drain.specs.declared.behind.Behind.{Behind}
use Rattle.std.proofs.Common.{ap, refl, subst, sym}

pub returns-in-Accept : goal.returns-in-Accept
returns-in-Accept c = λ s stands r. told s _ _ _ (subst (λ (b : Behind). IsPlain (event_of b s.units)) (sym c.in-Accept.is) (refl, refl)) (gives-same s _ _ _ _ (sym (ap (λ (b : Behind). event_of b s.units) c.in-Accept.is)) (c.accept.ensures s stands r))
