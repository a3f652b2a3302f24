use Rattle.salt_engine.proofs.InStage.{broken-off, lost-already}
use Rattle.salt_engine.proofs.stage.Stage+Scheduler.break_by.Goals as goal
use Rattle.salt_engine.specs.Standing.{serving_books}
use Rattle.std.proofs.Common.{ap, sym, ◌∙◌}

pub break_off-requires : goal.break_off-requires
break_off-requires c = c.replace.ensures.after

pub returns-in-Some-clause-broken : goal.returns-in-Some-clause-broken
returns-in-Some-clause-broken c =
    broken-off c.args.halt c.args.self.now _ c.in-Some.books (ap serving_books (sym c.replace.ensures.value) ∙ sym c.into_books.ensures ∙ c.in-Some.is) c.break_off.ensures.broken

pub returns-in-None-clause-broken : goal.returns-in-None-clause-broken
returns-in-None-clause-broken c =
    c.replace.ensures.after ∙ sym (lost-already c.args.halt c.args.self.now (ap serving_books (sym c.replace.ensures.value) ∙ sym c.into_books.ensures ∙ c.in-None.is))
