use Rattle.salt_scheduler.proofs.Allowing.{definable, none-refused}
use Rattle.salt_scheduler.proofs.scheduler.Scheduler.is_refused.Goals as goal
use Rattle.std.proofs.Common.{ap, sym, ◌∙◌}
use Rattle.salt_books.specs.declared.known.Known.{Known}

pub returns : goal.returns
returns c = λ is.
    definable c.args.line.now c.args.self.now.books c.schema.result.now c.catalogue.result.now (c.schema.ensures ∙ ap (λ (x : Known). x.schema) c.known-known.ensures)
    (c.catalogue.ensures ∙ ap (λ (x : Known). x.catalogue) c.known-known.ensures) (sym c.in_ok-refusal.ensures ∙ none-refused c.in_ok-refusal.refusal c.is_some.result c.is_some.ensures is)
