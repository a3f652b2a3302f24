use Rattle.std.proofs.Common.{subst}
use Rattle.salt_database.specs.Standing.{CanFind}
use Rattle.salt_database.specs.Halves.{IfClosed}
use Rattle.salt_database.proofs.Halved.{closed-has, closed-lies, half-within}
use Rattle.salt_database.proofs.database.DatabaseOpenable.find.Goals as goal
use Rattle.std.proofs.lemmas.Result.{IfErr-weaker}

pub returns-clause-again : goal.returns-clause-again
returns-clause-again g c = λ other room p sound fallen lies.
    let l = closed-lies g.S.Storage.asked g.S.Storage.net _ _ _ room p c.args.self.now c.in-Closed.opening c.in-Closed.is lies in
    (c.find.ensures.again other room p sound fallen l.0, c.find.ensures.begun p.state l.1)

pub returns-clause-stands : goal.returns-clause-stands
returns-clause-stands g c = λ room p sound fallen lies.
    c.find.ensures.stands room p sound fallen (closed-lies g.S.Storage.asked g.S.Storage.net _ _ _ room p c.args.self.now c.in-Closed.opening c.in-Closed.is lies).0

pub returns-clause-later : goal.returns-clause-later
returns-clause-later g c = IfErr-weaker c.find.result _ _ (λ e later room p sound fallen lies.
    later room p sound fallen (closed-lies g.S.Storage.asked g.S.Storage.net _ _ _ room p c.args.self.now c.in-Closed.opening c.in-Closed.is lies).0) c.find.ensures.later

pub find-requires-clause-callable : goal.find-requires-clause-callable
find-requires-clause-callable g c = c.requires.callable

pub find-requires-clause-answers : goal.find-requires-clause-answers
find-requires-clause-answers g c = c.requires.answers

pub returns-clause-within : goal.returns-clause-within
returns-clause-within g c = half-within _ _ _ c.args.self.now _ _ _ _ c.in-Closed.is c.find.ensures.within

pub returns-clause-counts : goal.returns-clause-counts
returns-clause-counts g c = c.find.ensures.counts

pub returns-clause-full : goal.returns-clause-full
returns-clause-full g c = c.find.ensures.full

pub returns-clause-found : goal.returns-clause-found
returns-clause-found g c = c.find.ensures.found

pub find-requires-clause-able : goal.find-requires-clause-able
find-requires-clause-able g c = closed-has _ _ c.args.self.now c.in-Closed.opening c.in-Closed.is c.requires.able

pub find-requires-clause-settled : goal.find-requires-clause-settled
find-requires-clause-settled g c = subst (λ x. IfClosed (λ o. CanFind (g.D.Disks.view c.args.disks.now).told (g.S.Storage.settled (g.D.Disks.view c.args.disks.now) o.storage) o.found o.stage) x) c.in-Closed.is c.requires.settled

pub find-requires-clause-down : goal.find-requires-clause-down
find-requires-clause-down g c = λ told.
    let l = c.requires.down told in
    (l.0, l.1, l.2, l.3, (closed-lies g.S.Storage.asked g.S.Storage.net _ _ _ l.0 l.1 c.args.self.now c.in-Closed.opening c.in-Closed.is l.4).0)

pub returns-clause-able : goal.returns-clause-able
returns-clause-able g c = c.find.ensures.able

pub returns-clause-late : goal.returns-clause-late
returns-clause-late g c = c.find.ensures.late
