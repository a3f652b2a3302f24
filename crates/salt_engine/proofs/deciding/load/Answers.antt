use Rattle.salt_engine.proofs.Counted.{cause-broken, same-cause}
use Rattle.salt_engine.proofs.Outcome.{by-err, not-ok}
use Rattle.salt_engine.proofs.Decided.{stored-still}
use Rattle.salt_engine.proofs.Loading.{may-load, rows-loaded, unloaded}
use Rattle.salt_engine.proofs.deciding.load.Goals as goal
use Rattle.salt_books.specs.declared.known.Known.{Known}
use Rattle.salt_storage.proofs.Staying.{stays-same}
use Rattle.std.proofs.Common.{ap, sym, ◌∙◌}
use Rattle.std.specs.Prelude.{Err, Some}

pub load-requires-clause-reach : goal.load-requires-clause-reach
load-requires-clause-reach g c = λ told.
    let ready = c.requires.ready told in
    let view = g.D.Disks.view c.args.disks.now in
    may-load (g.S.Storage.holds view c.args.storage.now) (g.S.Storage.is_new view c.args.storage.now) c.args.books.now c.args.asking.now ready.0 ready.1 c.get.result.now
    ready.2 ready.3 (c.in-Some.is ∙ ap Some (sym c.get.ensures)) c.schema.result.now (c.schema.ensures ∙ ap (λ (x : Known). x.schema) c.known.ensures)

pub returns-in_ok-rows-in-Some-clause-rows : goal.returns-in_ok-rows-in-Some-clause-rows
returns-in_ok-rows-in-Some-clause-rows g c = λ s stored.
    rows-loaded c.args.asking.now.reach c.get.result.now c.in_ok-rows-in-Some.rows s.kept.tables (c.in-Some.is ∙ ap Some (sym c.get.ensures)) (c.in_ok-rows-in-Some.ensures.rows s.kept stored.holding)

pub returns-in_ok-rows-in-Some-clause-keyed : goal.returns-in_ok-rows-in-Some-clause-keyed
returns-in_ok-rows-in-Some-clause-keyed g c = c.in_ok-rows-in-Some.ensures.keyed

pub returns-in_ok-rows-in-Some-clause-stored : goal.returns-in_ok-rows-in-Some-clause-stored
returns-in_ok-rows-in-Some-clause-stored g c = λ s stored.
    stored-still _ _ _ _ s stored c.in_ok-rows-in-Some.ensures.holds c.in_ok-rows-in-Some.ensures.is_new

pub returns-in_err-rows-in-Some-clause-undone : goal.returns-in_err-rows-in-Some-clause-undone
returns-in_err-rows-in-Some-clause-undone g c =
    let view = g.D.Disks.view c.args.disks.now in
    by-err _ c.from_residual.result _ c.from_residual.ensures.1 (λ s o b asked.
    unloaded (g.S.Storage.holds view c.args.storage.now) (g.S.Storage.is_new view c.args.storage.now) c.args.books.now c.args.asking.now s o c.get.result.now b asked (c.in-Some.is ∙ ap Some (sym c.get.ensures))
    _ _ _ (c.in_err-rows-in-Some.ensures.leaves s.kept b.stored.holding) (λ dev is. c.in_err-rows-in-Some.ensures.full dev (ap Err is)))

pub returns-in_ok-rows-in-Some-clause-within : goal.returns-in_ok-rows-in-Some-clause-within
returns-in_ok-rows-in-Some-clause-within g c = c.load.ensures.within

pub returns-in_err-rows-in-Some-clause-within : goal.returns-in_err-rows-in-Some-clause-within
returns-in_err-rows-in-Some-clause-within g c = c.load.ensures.within

pub returns-in_ok-rows-in-Some-clause-cause : goal.returns-in_ok-rows-in-Some-clause-cause
returns-in_ok-rows-in-Some-clause-cause g c = c.in_ok-rows-in-Some.ensures.cause

pub returns-in_err-rows-in-Some-clause-cause : goal.returns-in_err-rows-in-Some-clause-cause
returns-in_err-rows-in-Some-clause-cause g c = cause-broken _ _ c.from_residual.result _ c.from_residual.ensures.1 c.in_err-rows-in-Some.ensures.cause

pub returns-in_err-rows-in-Some-clause-rows : goal.returns-in_err-rows-in-Some-clause-rows
returns-in_err-rows-in-Some-clause-rows g c = not-ok _ _ c.from_residual.result c.from_residual.ensures.1

pub returns-in_err-rows-in-Some-clause-keyed : goal.returns-in_err-rows-in-Some-clause-keyed
returns-in_err-rows-in-Some-clause-keyed g c = not-ok _ _ c.from_residual.result c.from_residual.ensures.1

pub returns-in_err-rows-in-Some-clause-stored : goal.returns-in_err-rows-in-Some-clause-stored
returns-in_err-rows-in-Some-clause-stored g c = not-ok _ _ c.from_residual.result c.from_residual.ensures.1

pub returns-in-None-clause-stored : goal.returns-in-None-clause-stored
returns-in-None-clause-stored g c = λ s h. h

pub returns-in-None-clause-within : goal.returns-in-None-clause-within
returns-in-None-clause-within g c = stays-same _ (g.D.Disks.view c.args.disks.now)

pub returns-in-None-clause-cause : goal.returns-in-None-clause-cause
returns-in-None-clause-cause g c = same-cause (g.D.Disks.view c.args.disks.now)

pub load-requires-clause-callable : goal.load-requires-clause-callable
load-requires-clause-callable g c = c.requires.callable

pub load-requires-clause-answers : goal.load-requires-clause-answers
load-requires-clause-answers g c = c.requires.answers

pub returns-in_err-rows-in-Some-clause-sent : goal.returns-in_err-rows-in-Some-clause-sent
returns-in_err-rows-in-Some-clause-sent g c = not-ok _ _ c.from_residual.result c.from_residual.ensures.1

pub returns-in_ok-rows-in-Some-clause-able : goal.returns-in_ok-rows-in-Some-clause-able
returns-in_ok-rows-in-Some-clause-able g c = c.load.ensures.able

pub returns-in_err-rows-in-Some-clause-able : goal.returns-in_err-rows-in-Some-clause-able
returns-in_err-rows-in-Some-clause-able g c = c.load.ensures.able

pub returns-in-None-clause-able : goal.returns-in-None-clause-able
returns-in-None-clause-able g c = c.requires.able

pub load-requires-clause-able : goal.load-requires-clause-able
load-requires-clause-able g c = c.requires.able
