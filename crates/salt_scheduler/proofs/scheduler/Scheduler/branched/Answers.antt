use Rattle.salt_scheduler.proofs.scheduler.Scheduler.branched.Goals as goal
use Rattle.std.specs.Prelude.{Some, refl}
use Rattle.salt_model.specs.Kept.{conts_branched}
use Rattle.salt_model.specs.Units.{program_begun}
use Rattle.salt_model.specs.declared.events.Event.TheVariants.{Ended}
use Rattle.law_states.specs.Told.{next_decision_number}
use Rattle.salt_model.specs.declared.events.End.TheVariants.{Branched}
use Rattle.salt_model.specs.declared.events.End.{End}
use Rattle.salt_books.proofs.Named.{rising}
use Rattle.law_states.specs.UnitFacts.{facts_in}
use Rattle.salt_scheduler.proofs.EndsDone.{branch-gives, ended-first}
use Rattle.std.proofs.Common.{ap, ◌∙◌}

pub returns : goal.returns
returns c = λ s o part number stands sound named kind made.
    let end : End = Branched (next_decision_number s.units) c.args.cause in
    branch-gives c.args.self.now _ c.args.unit c.args.base part c.args.cause o s _ stands named kind
    (λ i. Some (Ended c.args.unit (Branched (number i) c.args.cause)))
    (c.in_ok-branch.ensures s.units o (conts_branched s.units.kept o.kind) c.args.cause number stands.books (rising s sound) named made refl)
    (c.end.ensures s.watch (facts_in s.units (Ended c.args.unit end)) end stands.watch (λ never. never)
    (ended-first s.units c.args.unit end o named ∙ ap program_begun kind))
    refl
    refl
    refl
