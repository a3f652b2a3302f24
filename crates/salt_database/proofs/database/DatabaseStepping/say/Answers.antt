use Rattle.std.specs.Prelude.{Some, []}
use Rattle.std.proofs.Common.{refl}
use Rattle.salt_driver.proofs.Counted.{counts-cause}
use Rattle.salt_engine.proofs.Untold.{untold-by}
use Rattle.salt_database.proofs.Halved.{at-open, closed-has, closed-serves, half-within, moving-never, open-at, open-has, open-most, open-waits}
use Rattle.salt_database.proofs.database.DatabaseStepping.say.Goals as goal
use Rattle.std.proofs.lemmas.Result.{IfOk-weaker, on_ok_weaker}

pub say-requires-clause-stands : goal.say-requires-clause-stands
say-requires-clause-stands g c = λ told.
    let s = c.requires.stands told in
    (s.0, s.1, open-at g.S.Storage.asked g.S.Storage.net _ _ _ c.args.self.now c.in-Open.engine c.args.line.now _ s.0 c.in-Open.is s.2)

pub returns-in-Open-clause-moves : goal.returns-in-Open-clause-moves
returns-in-Open-clause-moves g c =
    let now = g.D.Disks.view c.say.new.disks in
    IfOk-weaker c.say.result _ _ (λ next moves p sound at.
    let m = moves p sound (open-at g.S.Storage.asked g.S.Storage.net _ _ _ c.args.self.now c.in-Open.engine c.args.line.now _ p c.in-Open.is at) in
    (m.0, m.1, at-open g.S.Storage.asked g.S.Storage.net (g.S.Storage.holds now) (g.S.Storage.is_new now) now.can_stop c.say.new.self c.args.line.now next m.0 m.2)) c.say.ensures.moves

pub say-requires-clause-callable : goal.say-requires-clause-callable
say-requires-clause-callable g c = c.requires.callable

pub say-requires-clause-answers : goal.say-requires-clause-answers
say-requires-clause-answers g c = c.requires.answers

pub returns-in-Open-clause-within : goal.returns-in-Open-clause-within
returns-in-Open-clause-within g c = half-within _ _ _ c.args.self.now _ _ _ _ c.in-Open.is c.say.ensures.within

pub returns-in-Open-clause-counts : goal.returns-in-Open-clause-counts
returns-in-Open-clause-counts g c = c.say.ensures.counts

pub returns-in-Open-clause-tells : goal.returns-in-Open-clause-tells
returns-in-Open-clause-tells g c = c.say.ensures.tells

pub returns-in-Open-clause-refused : goal.returns-in-Open-clause-refused
returns-in-Open-clause-refused g c = c.say.ensures.refused

pub say-requires-clause-able : goal.say-requires-clause-able
say-requires-clause-able g c = open-has _ _ c.args.self.now c.in-Open.engine c.in-Open.is c.requires.able

pub returns-in-Open-clause-able : goal.returns-in-Open-clause-able
returns-in-Open-clause-able g c = c.say.ensures.able

pub returns-in-Open-clause-plain : goal.returns-in-Open-clause-plain
returns-in-Open-clause-plain g c = c.say.ensures.plain

pub strayed-requires-clause-untold : goal.strayed-requires-clause-untold
strayed-requires-clause-untold g c = untold-by _ (λ told. let s = c.requires.stands told in closed-serves g.S.Storage.asked g.S.Storage.net _ _ _ c.args.self.now c.in-Closed.opening c.args.line.now _ s.0 c.in-Closed.is s.2)

pub strayed-requires-clause-able : goal.strayed-requires-clause-able
strayed-requires-clause-able g c = closed-has _ _ c.args.self.now c.in-Closed.opening c.in-Closed.is c.requires.able

pub unreachable-requires : goal.unreachable-requires
unreachable-requires g c = moving-never _ _ c.args.self.now c.in-Moving.is c.requires.able

pub returns-in-Closed-clause-able : goal.returns-in-Closed-clause-able
returns-in-Closed-clause-able g c = c.strayed.ensures.able

pub returns-in-Closed-clause-within : goal.returns-in-Closed-clause-within
returns-in-Closed-clause-within g c = half-within _ _ _ c.args.self.now _ _ _ _ c.in-Closed.is c.strayed.ensures.within

pub say-requires-clause-plain : goal.say-requires-clause-plain
say-requires-clause-plain g c = c.requires.plain

pub returns-in-Open-clause-broken : goal.returns-in-Open-clause-broken
returns-in-Open-clause-broken g c = c.say.ensures.broken

pub returns-in-Open-clause-less : goal.returns-in-Open-clause-less
returns-in-Open-clause-less g c = IfOk-weaker c.say.result _ _ (λ next less told. open-waits c.args.self.now c.in-Open.engine (Some c.args.event) _ c.in-Open.is (less told)) c.say.ensures.less

pub returns-in-Open-clause-turns : goal.returns-in-Open-clause-turns
returns-in-Open-clause-turns g c = on_ok_weaker c.say.result (λ most told. open-most c.args.self.now c.in-Open.engine _ c.in-Open.is (most told)) c.say.ensures.turns

pub returns-in-Closed-clause-halts : goal.returns-in-Closed-clause-halts
returns-in-Closed-clause-halts g c = λ p sound at. absurd (closed-serves g.S.Storage.asked g.S.Storage.net _ _ _ c.args.self.now c.in-Closed.opening c.args.line.now _ p c.in-Closed.is at)

pub returns-in-Closed-clause-counts : goal.returns-in-Closed-clause-counts
returns-in-Closed-clause-counts g c = counts-cause _ _ _ [] refl c.strayed.ensures.cause

pub returns-in-Closed-clause-broken : goal.returns-in-Closed-clause-broken
returns-in-Closed-clause-broken g c = c.strayed.ensures.broken

pub returns-in-Closed-clause-refused : goal.returns-in-Closed-clause-refused
returns-in-Closed-clause-refused g c = λ refusal is told. let s = c.requires.stands told in absurd (closed-serves g.S.Storage.asked g.S.Storage.net _ _ _ c.args.self.now c.in-Closed.opening c.args.line.now _ s.0 c.in-Closed.is s.2)
