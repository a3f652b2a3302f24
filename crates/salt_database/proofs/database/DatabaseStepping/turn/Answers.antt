use Rattle.std.specs.Prelude.{[]}
use Rattle.std.proofs.Common.{refl}
use Rattle.salt_driver.proofs.Counted.{counts-cause}
use Rattle.salt_engine.proofs.Untold.{untold-by}
use Rattle.salt_database.proofs.Halved.{at-open, closed-has, closed-serves, half-within, moving-never, open-at, open-fewer, open-has}
use Rattle.salt_database.proofs.database.DatabaseStepping.turn.Goals as goal
use Rattle.std.proofs.lemmas.Result.{IfErr-weaker, IfOk-weaker, on_ok_weaker}

pub turn-requires-clause-stands : goal.turn-requires-clause-stands
turn-requires-clause-stands g c = λ told.
    let s = c.requires.stands told in
    (s.0, s.1, open-at g.S.Storage.asked g.S.Storage.net _ _ _ c.args.self.now c.in-Open.engine c.args.line.now _ s.0 c.in-Open.is s.2, s.3)

pub returns-in-Open-clause-moves : goal.returns-in-Open-clause-moves
returns-in-Open-clause-moves g c =
    let now = g.D.Disks.view c.turn.new.disks in
    IfOk-weaker c.turn.result _ _ (λ next moves p sound at turn.
    let m = moves p sound (open-at g.S.Storage.asked g.S.Storage.net _ _ _ c.args.self.now c.in-Open.engine c.args.line.now _ p c.in-Open.is at) turn in
    (m.0, m.1, at-open g.S.Storage.asked g.S.Storage.net (g.S.Storage.holds now) (g.S.Storage.is_new now) now.can_stop c.turn.new.self c.args.line.now next m.0 m.2)) c.turn.ensures.moves

pub returns-in-Open-clause-halts : goal.returns-in-Open-clause-halts
returns-in-Open-clause-halts g c =
    IfErr-weaker c.turn.result _ _ (λ halt halts p sound at turn. halts p sound (open-at g.S.Storage.asked g.S.Storage.net _ _ _ c.args.self.now c.in-Open.engine c.args.line.now _ p c.in-Open.is at) turn) c.turn.ensures.halts

pub turn-requires-clause-callable : goal.turn-requires-clause-callable
turn-requires-clause-callable g c = c.requires.callable

pub turn-requires-clause-answers : goal.turn-requires-clause-answers
turn-requires-clause-answers g c = c.requires.answers

pub returns-in-Open-clause-within : goal.returns-in-Open-clause-within
returns-in-Open-clause-within g c = half-within _ _ _ c.args.self.now _ _ _ _ c.in-Open.is c.turn.ensures.within

pub returns-in-Open-clause-counts : goal.returns-in-Open-clause-counts
returns-in-Open-clause-counts g c = c.turn.ensures.counts

pub turn-requires-clause-able : goal.turn-requires-clause-able
turn-requires-clause-able g c = open-has _ _ c.args.self.now c.in-Open.engine c.in-Open.is c.requires.able

pub returns-in-Open-clause-able : goal.returns-in-Open-clause-able
returns-in-Open-clause-able g c = c.turn.ensures.able

pub returns-in-Open-clause-plain : goal.returns-in-Open-clause-plain
returns-in-Open-clause-plain g c = c.turn.ensures.plain

pub reject-requires-clause-untold : goal.reject-requires-clause-untold
reject-requires-clause-untold g c = untold-by _ (λ told. let s = c.requires.stands told in closed-serves g.S.Storage.asked g.S.Storage.net _ _ _ c.args.self.now c.in-Closed.opening c.args.line.now _ s.0 c.in-Closed.is s.2)

pub reject-requires-clause-able : goal.reject-requires-clause-able
reject-requires-clause-able g c = closed-has _ _ c.args.self.now c.in-Closed.opening c.in-Closed.is c.requires.able

pub unreachable-requires : goal.unreachable-requires
unreachable-requires g c = moving-never _ _ c.args.self.now c.in-Moving.is c.requires.able

pub returns-in-Closed-clause-able : goal.returns-in-Closed-clause-able
returns-in-Closed-clause-able g c = c.reject.ensures.able

pub returns-in-Closed-clause-within : goal.returns-in-Closed-clause-within
returns-in-Closed-clause-within g c = half-within _ _ _ c.args.self.now _ _ _ _ c.in-Closed.is c.reject.ensures.within

pub returns-in-Closed-clause-halts : goal.returns-in-Closed-clause-halts
returns-in-Closed-clause-halts g c = λ p sound at turn. absurd (closed-serves g.S.Storage.asked g.S.Storage.net _ _ _ c.args.self.now c.in-Closed.opening c.args.line.now _ p c.in-Closed.is at)

pub returns-in-Closed-clause-counts : goal.returns-in-Closed-clause-counts
returns-in-Closed-clause-counts g c = counts-cause _ _ _ [] refl c.reject.ensures.cause

pub returns-in-Open-clause-fewer : goal.returns-in-Open-clause-fewer
returns-in-Open-clause-fewer g c = on_ok_weaker c.turn.result (λ fewer told. open-fewer c.args.self.now c.in-Open.engine _ c.in-Open.is (fewer told)) c.turn.ensures.fewer
