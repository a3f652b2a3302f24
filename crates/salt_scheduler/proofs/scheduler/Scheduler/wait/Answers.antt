use Rattle.salt_scheduler.proofs.scheduler.Scheduler.wait.Goals as goal
use Rattle.std.specs.Prelude.{Option, refl}
use Rattle.salt_books.specs.declared.asking.Asking.{Asking}
use Rattle.salt_conflicts.specs.declared.waiters.Waiter.{Waiter}
use Rattle.salt_model.specs.declared.locks.Reach.{Reach}
use Rattle.salt_books.proofs.Named.{rising}
use Rattle.salt_model.specs.Waiting.{statement_of_line}
use Rattle.salt_model.specs.declared.events.Event.TheVariants.{Waits}
use Rattle.law_states.specs.UnitFacts.{asker_in, facts_in}
use Rattle.std.proofs.Common.{ap, sym, ◌∙◌}
use Rattle.salt_scheduler.proofs.ActDone.{wait-gives, waits-asks, waits-waiter}

-- the waiter of what is asked, by its reach
abbrev waiting : Asking → Option Reach → Waiter
waiting a reach = record { unit = a.unit; base = a.base; family = a.family; reach = reach }

pub returns : goal.returns
returns c = λ s o stands serves asked.
    wait-gives c.args.self.now _ c.args.asking c.args.owners s o _ stands asked refl
    (c.wait.ensures s.units c.args.owners stands.books (rising s serves.sound)
    (c.in_ok-copy_statement.ensures ∙ ap statement_of_line (sym serves.line)))
    (c.in_ok-wait.ensures s.watch (facts_in s.units (Waits c.args.asking.unit c.args.owners)) (asker_in s.units o) c.args.owners stands.watch
    (waits-asks s.units c.args.asking c.args.owners o asked)
    (waits-waiter s.units c.args.asking o asked ∙ ap (waiting c.args.asking) (sym c.unboxed.ensures)))
    refl
    refl
    refl
