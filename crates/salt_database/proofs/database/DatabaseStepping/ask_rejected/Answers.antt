use Rattle.std.specs.Prelude.{[]}
use Rattle.std.proofs.Common.{refl}
use Rattle.salt_driver.proofs.Counted.{counts-cause}
use Rattle.salt_engine.proofs.Untold.{untold-by}
use Rattle.salt_ast.specs.declared.lines.Line.TheVariants.{Nothing}
use Rattle.salt_database.proofs.Halved.{at-open, closed-asks, closed-has, half-within, moving-never, open-has, open-idle}
use Rattle.salt_database.proofs.database.DatabaseStepping.ask_rejected.Goals as goal
use Rattle.std.proofs.lemmas.Result.{IfErr-weaker, IfOk-weaker}

pub ask_rejected-requires-clause-stands : goal.ask_rejected-requires-clause-stands
ask_rejected-requires-clause-stands g c = λ told. let s = c.requires.stands told in (s.0, s.1, open-idle g.S.Storage.asked g.S.Storage.net _ _ _ c.args.self.now c.in-Open.engine s.0 c.in-Open.is s.2)

pub returns-in-Open-clause-moves : goal.returns-in-Open-clause-moves
returns-in-Open-clause-moves g c =
    let now = g.D.Disks.view c.ask_rejected.new.disks in
    IfOk-weaker c.ask_rejected.result _ _ (λ next moves p sound at.
    let m = moves p sound (open-idle g.S.Storage.asked g.S.Storage.net _ _ _ c.args.self.now c.in-Open.engine p c.in-Open.is at) in
    (m.0, m.1, at-open g.S.Storage.asked g.S.Storage.net (g.S.Storage.holds now) (g.S.Storage.is_new now) now.can_stop c.ask_rejected.new.self Nothing next m.0 m.2)) c.ask_rejected.ensures.moves

pub returns-in-Open-clause-halts : goal.returns-in-Open-clause-halts
returns-in-Open-clause-halts g c =
    IfErr-weaker c.ask_rejected.result _ _ (λ halt halts p sound at. halts p sound (open-idle g.S.Storage.asked g.S.Storage.net _ _ _ c.args.self.now c.in-Open.engine p c.in-Open.is at)) c.ask_rejected.ensures.halts

pub returns-in-Open-clause-within : goal.returns-in-Open-clause-within
returns-in-Open-clause-within g c = half-within _ _ _ c.args.self.now _ _ _ _ c.in-Open.is c.ask_rejected.ensures.within

pub returns-in-Open-clause-counts : goal.returns-in-Open-clause-counts
returns-in-Open-clause-counts g c = c.ask_rejected.ensures.counts

pub returns-in-Open-clause-unwritten : goal.returns-in-Open-clause-unwritten
returns-in-Open-clause-unwritten g c = c.ask_rejected.ensures.unwritten

pub ask_rejected-requires-clause-able : goal.ask_rejected-requires-clause-able
ask_rejected-requires-clause-able g c = open-has _ _ c.args.self.now c.in-Open.engine c.in-Open.is c.requires.able

pub returns-in-Open-clause-able : goal.returns-in-Open-clause-able
returns-in-Open-clause-able g c = c.ask_rejected.ensures.able

pub returns-in-Open-clause-plain : goal.returns-in-Open-clause-plain
returns-in-Open-clause-plain g c = c.ask_rejected.ensures.plain

pub reject-requires-clause-untold : goal.reject-requires-clause-untold
reject-requires-clause-untold g c = untold-by _ (λ told. let s = c.requires.stands told in closed-asks g.S.Storage.asked g.S.Storage.net _ _ _ c.args.self.now c.in-Closed.opening s.0 c.in-Closed.is s.2)

pub reject-requires-clause-able : goal.reject-requires-clause-able
reject-requires-clause-able g c = closed-has _ _ c.args.self.now c.in-Closed.opening c.in-Closed.is c.requires.able

pub unreachable-requires : goal.unreachable-requires
unreachable-requires g c = moving-never _ _ c.args.self.now c.in-Moving.is c.requires.able

pub returns-in-Closed-clause-able : goal.returns-in-Closed-clause-able
returns-in-Closed-clause-able g c = c.reject.ensures.able

pub returns-in-Closed-clause-within : goal.returns-in-Closed-clause-within
returns-in-Closed-clause-within g c = half-within _ _ _ c.args.self.now _ _ _ _ c.in-Closed.is c.reject.ensures.within

pub returns-in-Closed-clause-halts : goal.returns-in-Closed-clause-halts
returns-in-Closed-clause-halts g c = λ p sound at. absurd (closed-asks g.S.Storage.asked g.S.Storage.net _ _ _ c.args.self.now c.in-Closed.opening p c.in-Closed.is at)

pub returns-in-Closed-clause-counts : goal.returns-in-Closed-clause-counts
returns-in-Closed-clause-counts g c = counts-cause _ _ _ [] refl c.reject.ensures.cause

pub returns-in-Closed-clause-unwritten : goal.returns-in-Closed-clause-unwritten
returns-in-Closed-clause-unwritten g c = λ told. let s = c.requires.stands told in absurd (closed-asks g.S.Storage.asked g.S.Storage.net _ _ _ c.args.self.now c.in-Closed.opening s.0 c.in-Closed.is s.2)
