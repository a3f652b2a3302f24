use Rattle.salt_drain.proofs.recovery.Recovery.done.Goals as goal
use Rattle.salt_books.specs.Books.{AreLoaded}
use Rattle.law_states.specs.Steps.{units_after}
use Rattle.salt_model.specs.declared.events.Cause.{Cause}
use Rattle.salt_model.specs.declared.events.Event.TheVariants.{Did}
use Rattle.salt_model.specs.declared.locks.Reach.{Reach}
use Rattle.salt_drain.proofs.Done.{gives}
use Rattle.salt_drain.proofs.Follows.{did, did-part}
use Rattle.salt_books.proofs.Named.{named-unit, rising}
use Rattle.salt_drain.specs.Follows.{FollowsOn}
use Rattle.salt_drain.specs.declared.behind.Behind.TheVariants.{Done}
use Rattle.std.proofs.Common.{Option, subst, sym}
use Rattle.std.specs.Prelude.{Some, refl}

pub returns-clause-gives : goal.returns-clause-gives
returns-clause-gives g c = λ s o stands r asked part loaded.
    let u = c.args.asking.unit in
    let st = c.args.asking.statement in
    let answer = c.in_ok-answer.answer in
    let e = Did u st answer in
    let own = subst (λ (q : Option Reach). AreLoaded q c.args.rows.now s.units.kept.tables) asked.reach loaded in
    let answers = c.in_ok-answer.ensures.answer s.units o stands.books (rising s r.sound) asked.named own in
    gives e _ _ s _ r refl (λ i. Some (Did (sym (named-unit u s.units.units o asked.named) i) st (answers i))) refl
    (record {
      books = c.in_ok-answer.ensures.state s.units o answer stands.books (rising s r.sound) asked.named own;
      opening = stands.opening;
      single = stands.single;
      drain = did-part u st answer s.units o asked.named part;
    })
    (subst (λ (f : Option Cause). FollowsOn (Done u f) e s.units (units_after e s.units)) (sym c.cause_of.ensures) (did u st answer s.units (units_after e s.units)))
