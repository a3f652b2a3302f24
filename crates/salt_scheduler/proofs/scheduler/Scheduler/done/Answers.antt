use Rattle.salt_scheduler.proofs.scheduler.Scheduler.done.Goals as goal
use Rattle.std.specs.Prelude.{Option, not, refl}
use Rattle.salt_books.specs.Books.{AreLoaded}
use Rattle.salt_books.proofs.Named.{rising}
use Rattle.law_story.proofs.Lists.{not-true}
use Rattle.salt_model.specs.declared.events.Event.TheVariants.{Did}
use Rattle.salt_model.specs.declared.locks.Reach.{Reach}
use Rattle.salt_scheduler.proofs.ActDone.{act-gives, did-base, did-family, did-reach}
use Rattle.law_states.specs.UnitFacts.{facts_in}
use Rattle.std.proofs.Common.{ap, subst, sym, ◌∙◌}
use Rattle.salt_scheduler.specs.declared.follow.Follow.TheVariants.{Done}

pub returns : goal.returns
returns c = λ s o stands sound asked loaded.
    let rises = rising s sound in
    let within = subst (λ (r : Option Reach). AreLoaded r c.args.rows.now s.units.kept.tables) asked.reach loaded in
    let base = did-base s.units c.args.asking c.in_ok-answer.answer o asked in
    let reach = did-reach s.units c.args.asking c.in_ok-answer.answer o asked ∙ sym c.lent.ensures in
    let facts = facts_in s.units (Did c.args.asking.unit c.args.asking.statement c.in_ok-answer.answer) in
    act-gives c.args.self.now _ c.args.asking c.in_ok-answer.answer (not c.in_ok-more.more) s o _ stands asked refl
    (c.in_ok-answer.ensures.answer s.units o stands.books rises asked.named within)
    (c.in_ok-answer.ensures.state s.units o c.in_ok-answer.answer stands.books rises asked.named within)
    (c.in_ok-more.ensures.goes s.watch facts c.args.asking.statement c.in_ok-answer.answer stands.watch base
    (did-family s.units c.args.asking c.in_ok-answer.answer o asked) reach)
    refl
    (ap (Done c.args.asking.unit) c.cause_of.ensures)
    (λ quiet. c.in_ok-more.ensures.quiet (not-true c.in_ok-more.more quiet) s.watch facts c.args.asking.statement c.in_ok-answer.answer stands.watch base reach)
    c.is_calm_behind-self.ensures
