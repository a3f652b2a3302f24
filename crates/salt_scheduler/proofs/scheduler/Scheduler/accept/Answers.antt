use Rattle.salt_scheduler.proofs.scheduler.Scheduler.accept.Goals as goal
use Rattle.std.specs.Prelude.{refl}
use Rattle.law_states.specs.UnitFacts.{facts_in}
use Rattle.salt_scheduler.proofs.BasesDone.{accept-gives}
use Rattle.salt_model.specs.declared.events.Event.TheVariants.{Accepted}

pub returns : goal.returns
returns c = λ s r stands serves.
    accept-gives c.args.self.now _ c.args.base s _ stands c.requires refl refl
    (c.in_ok-accept.ensures s.watch (facts_in s.units (Accepted c.args.base)) stands.watch) refl refl refl
