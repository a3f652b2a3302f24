use Rattle.salt_scheduler.proofs.scheduler.Scheduler.release.Goals as goal
use Rattle.salt_scheduler.proofs.SoundFacts.{never-true}
use Rattle.std.specs.Prelude.{refl}
use Rattle.salt_scheduler.proofs.BasesDone.{release-brings}
use Rattle.salt_model.specs.declared.events.Event.TheVariants.{Released}
use Rattle.law_states.specs.UnitFacts.{facts_in}
use Rattle.salt_scheduler.proofs.Done.{state_by, under-way-at}
use Rattle.salt_scheduler.proofs.UnderWay.{under-way}
use Rattle.law_states.specs.Readings.{first_parts}
use Rattle.salt_scheduler.specs.declared.follow.Follow.TheVariants.{Release}
use Rattle.salt_scheduler.proofs.SettleDone.{behind-at}

pub returns : goal.returns
returns c = λ s r behind serves.
    let stands = behind-at (Release c.args.base) c.args.self.now s c.requires behind in
    release-brings c.args.self.now _ c.args.base s r c.in_ok-due.due stands
    (c.in_ok-due.ensures.due s.watch r stands.watch)
    (λ none. never-true (c.if-is_empty.ensures.1 none))
    (c.in_ok-due.ensures.released s.watch (facts_in s.units (Released c.in_ok-due.due)) stands.watch)
    refl
    (λ w b watched i. (c.in_ok-forget.ensures s.units w stands.books watched).kept b
    (under-way b w.programs (first_parts s.units.units) (under-way-at (state_by (Released c.in_ok-due.due) s w) b i)))
    refl
    refl
