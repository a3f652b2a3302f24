use Rattle.salt_scheduler.proofs.scheduler.Scheduler.serve.Goals as goal
use Rattle.salt_scheduler.proofs.ActDone.{act-brings, asked-at, asked-name, serve-asked}

pub returns-in-Some : goal.returns-in-Some
returns-in-Some c = λ s r stands serves.
    let asked = asked-at s.units c.args.unit c.in_ok-asking.field-0 c.in-Some.asking c.in-Some.is (c.in_ok-asking.ensures s.units stands.books serves.line) in
    act-brings c.args.self.now s c.in-Some.asking asked.1.0 _ stands asked.1.1
    (serve-asked s.units c.args.unit asked.1.0 c.in-Some.asking.statement (asked-name s.units c.args.unit c.in-Some.asking asked) asked.1.1.asks)
