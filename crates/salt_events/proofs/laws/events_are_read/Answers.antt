use Rattle.salt_events.proofs.EventLaws.{OfStatements, event_back, event_told}
use Rattle.salt_events.proofs.laws.events_are_read.Goals as goal

pub returns-clause-read : goal.returns-clause-read
returns-clause-read c =
    let laws : OfStatements = record {
      read = λ text st e. (c.statements_are_read.ensures text st).0 e;
      back = λ text st e. (c.statements_are_read.ensures text st).1 e;
      defines = λ text d. (λ e. (c.definitions_are_read.ensures text d).0 e, λ h. (c.definitions_are_read.ensures text d).1 h);
      arrow = c.statement_before_arrow.ensures.found;
    } in
    event_told laws

pub returns-clause-back : goal.returns-clause-back
returns-clause-back c =
    let laws : OfStatements = record {
      read = λ text st e. (c.statements_are_read.ensures text st).0 e;
      back = λ text st e. (c.statements_are_read.ensures text st).1 e;
      defines = λ text d. (λ e. (c.definitions_are_read.ensures text d).0 e, λ h. (c.definitions_are_read.ensures text d).1 h);
      arrow = c.statement_before_arrow.ensures.found;
    } in
    λ schema line e h. let r = event_back laws schema line e h in (r.0, r.1, record { form = r.3; sizes = r.2 })
