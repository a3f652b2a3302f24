use Rattle.salt_books.specs.declared.coming.Coming.{Coming}
use Rattle.salt_database.proofs.Resting.{rest-told, told-event}
use Rattle.salt_database.proofs.beginning.resting.Goals as goal
use Rattle.salt_drain.specs.Follows.{rest_in}
use Rattle.salt_drain.specs.Recovering.{AnswersWithComing}
use Rattle.std.proofs.Common.{subst}

pub returns-in-Told : goal.returns-in-Told
returns-in-Told c = λ s r.
    let b = subst (λ (x : Coming). AnswersWithComing s (rest_in s.units) c.opened.new.self x) c.in-Told.is (c.in_ok-coming.ensures s r.stands r.recovers) in
    record { told = b.meant; done = b.ready.0 }

pub returns : goal.returns
returns c = λ s r.
    let told = told-event c.in_ok-coming.coming (rest-told s c.opened.new.self c.in_ok-coming.coming (c.in_ok-coming.ensures s r.stands r.recovers) r.comes) in
    absurd (c.in_default.not-Told told.0 told.1)
