use Rattle.salt_scheduler.proofs.Refusing.{judged, turns}
use Rattle.salt_scheduler.proofs.scheduler.Scheduler.fault.Goals as goal
use Rattle.salt_books.specs.Known.{IsKnown}
use Rattle.salt_books.specs.declared.known.Known.{Known}
use Rattle.law_states.specs.Readings.{under_way_of}
use Rattle.salt_model.specs.Kept.{programs_of, schema_of}
use Rattle.salt_scheduler.specs.Refusals.{told}
use Rattle.std.proofs.Common.{ap, subst, sym, ◌∙◌}
use Rattle.std.proofs.lemmas.Result.{IfOk-weaker}

pub returns-then-is_turn : goal.returns-then-is_turn
returns-then-is_turn c = λ s stands distinct.
    sym (ap told (turns (schema_of s.units.kept) (programs_of s.units.kept) s.units.kept (under_way_of s).count c.args.line.now (sym (c.is_turn.ensures s stands) ∙ c.if-is_turn.true)))

pub returns : goal.returns
returns c = IfOk-weaker c.line_refusal.result _ _ (λ refusal e s stands distinct.
    e ∙ judged s c.known-known.result.now c.schema.result.now c.catalogue.result.now c.in_ok-count.count c.args.line.now
    (subst (λ (x : Known). IsKnown x s.units.kept) (sym c.known-known.ensures) stands.books.known)
    c.schema.ensures c.catalogue.ensures (sym (c.is_turn.ensures s stands) ∙ c.if-is_turn.false) (c.in_ok-count.ensures s stands distinct)) c.line_refusal.ensures
