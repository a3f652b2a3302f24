use Rattle.salt_drain.proofs.recovery.Recovery.fail.Goals as goal
use Rattle.salt_books.specs.Held.{seen}
use Rattle.salt_drain.proofs.Chosen.{fail-brings}
use Rattle.std.proofs.Common.{sym}

pub returns-in-Later : goal.returns-in-Later
returns-in-Later c = λ s stands r parts.
    fail-brings s c.args.unit c.in-Later.base c.in-Later.part (seen c.in-Some.held.now) c.args.cause _ stands (sym (c.in-Some.ensures s.units stands.books)) c.in-Later.is

pub returns-in_default-kind : goal.returns-in_default-kind
returns-in_default-kind c = λ s stands r parts.
    let o = parts (seen c.in-Some.held.now) (sym (c.in-Some.ensures s.units stands.books)) in
    absurd (c.in_default-kind.not-Later o.0 o.1 o.2)
