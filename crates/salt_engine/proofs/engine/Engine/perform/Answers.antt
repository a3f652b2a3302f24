use Rattle.salt_engine.specs.declared.stage.Stage.TheVariants as at
use Rattle.salt_scheduler.specs.Standing.{books_of}
use Rattle.salt_driver.proofs.Untold.{not-both, untold-now, untold-then}
use Rattle.salt_engine.proofs.Counted.{cause-broken, cause-lost, cause-on}
use Rattle.salt_engine.proofs.InStage.{behind-broken, behind-lost, never-else, stands-there}
use Rattle.salt_engine.proofs.Outcome.{comes-broken, not-ok}
use Rattle.salt_engine.proofs.Providing.{breaks-given, breaks-undone}
use Rattle.salt_engine.proofs.TakenUp.{serves-asks, serves-takes, taken-performs}
use Rattle.salt_engine.proofs.Untold.{either-way, held-untold, seen-plain, stored-held, untold-by}
use Rattle.salt_engine.proofs.engine.Engine.perform.Goals as goal
use Rattle.salt_engine.specs.Giving.{CanTake}
use Rattle.salt_engine.specs.Performing.{comes_plain}
use Rattle.salt_storage.proofs.Staying.{stays-behind}
use Rattle.std.proofs.Common.{subst}
use Rattle.std.specs.Prelude.{refl, true, ◌≡◌}

pub provide-requires-clause-callable : goal.provide-requires-clause-callable
provide-requires-clause-callable g c = c.requires.callable

pub provide-requires-clause-answers : goal.provide-requires-clause-answers
provide-requires-clause-answers g c = c.requires.answers

pub provide-requires-clause-none : goal.provide-requires-clause-none
provide-requires-clause-none g c = c.requires.none

pub provide-requires-clause-ready : goal.provide-requires-clause-ready
provide-requires-clause-ready g c = λ told.
    let ready = c.requires.ready told in
    let x = c.in-Going.scheduler in
    let s = ready.0 in
    (s, serves-asks _ _ x c.args.coming s (stands-there _ _ x c.in-Going.is ready.1) c.books.result.now c.books.ensures)

pub take_up-requires : goal.take_up-requires
take_up-requires g c = subst (λ x. CanTake x c.in_ok-given.given) c.books.ensures c.in_ok-given.ensures.taken

pub returns-clause-comes : goal.returns-clause-comes
returns-clause-comes g c = λ s k.
    let x = c.in-Going.scheduler in
    let h = stands-there _ _ x c.in-Going.is k in
    let p = c.in_ok-given.ensures.given s (serves-asks _ _ x c.args.coming s h c.books.result.now c.books.ensures) in
    taken-performs _ _ _ _ c.args.coming c.in_ok-given.given s c.take_up.new.scheduler c.in_ok-next.next refl p h.serves
    (c.in_ok-next.ensures s (serves-takes _ _ x c.args.coming s h _ _ _ c.in_ok-given.given p))

pub returns-clause-stays : goal.returns-clause-stays
returns-clause-stays g c = record { noted = refl; within = c.provide.ensures.within }

pub returns-clause-cause : goal.returns-clause-cause
returns-clause-cause g c = c.in_ok-given.ensures.cause

pub returns-clause-still : goal.returns-clause-still
returns-clause-still g c = c.provide.ensures.still

pub returns-in_err-given-clause-comes : goal.returns-in_err-given-clause-comes
returns-in_err-given-clause-comes g c = λ s k.
    let x = c.in-Going.scheduler in
    let h = stands-there _ _ x c.in-Going.is k in
    comes-broken _ _ _ _ _ _ _ s _ c.from_residual.result c.from_residual.ensures.1
    (breaks-undone _ _ _ _ _ _ s.units c.books.result.now (books_of x) c.books.ensures
    (c.in_err-given.ensures.undone s (serves-asks _ _ x c.args.coming s h c.books.result.now c.books.ensures))
    (behind-broken c.from_residual.result _ _ x refl c.from_residual.ensures.1))

pub returns-in_err-given-clause-stays : goal.returns-in_err-given-clause-stays
returns-in_err-given-clause-stays g c = record { noted = refl; within = c.provide.ensures.within }

pub returns-in_err-given-clause-cause : goal.returns-in_err-given-clause-cause
returns-in_err-given-clause-cause g c = cause-broken _ _ c.from_residual.result _ c.from_residual.ensures.1 c.in_err-given.ensures.cause

pub returns-in_err-given-clause-still : goal.returns-in_err-given-clause-still
returns-in_err-given-clause-still g c = c.provide.ensures.still

pub returns-in_err-next-clause-comes : goal.returns-in_err-next-clause-comes
returns-in_err-next-clause-comes g c = λ s k.
    let x = c.in-Going.scheduler in
    let h = stands-there _ _ x c.in-Going.is k in
    let p = c.in_ok-given.ensures.given s (serves-asks _ _ x c.args.coming s h c.books.result.now c.books.ensures) in
    comes-broken _ _ _ _ _ _ _ s _ c.from_residual-in_err-next.result c.from_residual-in_err-next.ensures.1
    (breaks-given _ _ _ _ _ _ c.args.coming c.in_ok-given.given s p c.stands-2.ensures.stays (behind-lost c.from_residual-in_err-next.result _ c.from_residual-in_err-next.ensures.1))

pub returns-in_err-next-clause-stays : goal.returns-in_err-next-clause-stays
returns-in_err-next-clause-stays g c = record { noted = refl; within = c.provide.ensures.within }

pub returns-in_err-next-clause-cause : goal.returns-in_err-next-clause-cause
returns-in_err-next-clause-cause g c =
    cause-broken _ _ c.from_residual-in_err-next.result _ c.from_residual-in_err-next.ensures.1 (cause-lost _ _ c.in_ok-given.ensures.cause)

pub returns-in_err-next-clause-still : goal.returns-in_err-next-clause-still
returns-in_err-next-clause-still g c = c.provide.ensures.still

pub returns-clause-sent : goal.returns-clause-sent
returns-clause-sent g c = λ s k.
    let x = c.in-Going.scheduler in
    c.in_ok-given.ensures.sent s (serves-asks _ _ x c.args.coming s (stands-there _ _ x c.in-Going.is k) c.books.result.now c.books.ensures)

pub returns-in_err-given-clause-sent : goal.returns-in_err-given-clause-sent
returns-in_err-given-clause-sent g c = not-ok _ _ c.from_residual.result c.from_residual.ensures.1

pub returns-in_err-next-clause-sent : goal.returns-in_err-next-clause-sent
returns-in_err-next-clause-sent g c = not-ok _ _ c.from_residual-in_err-next.result c.from_residual-in_err-next.ensures.1

pub reject-requires-clause-untold : goal.reject-requires-clause-untold
reject-requires-clause-untold g c = untold-by _ (λ told. never-else _ c.args.self.now.stage c.in_default.not-Going (c.requires.ready told).1)

pub reject-requires-clause-able : goal.reject-requires-clause-able
reject-requires-clause-able g c = c.requires.able

pub returns-in_default-clause-comes : goal.returns-in_default-clause-comes
returns-in_default-clause-comes g c = λ s k. absurd (never-else _ c.args.self.now.stage c.in_default.not-Going k)

pub returns-in_default-clause-stays : goal.returns-in_default-clause-stays
returns-in_default-clause-stays g c = record { noted = refl; within = c.reject.ensures.within }

pub returns-in_default-clause-cause : goal.returns-in_default-clause-cause
returns-in_default-clause-cause g c = c.reject.ensures.cause

pub returns-in_default-clause-able : goal.returns-in_default-clause-able
returns-in_default-clause-able g c = c.reject.ensures.able

pub returns-in_default-clause-still : goal.returns-in_default-clause-still
returns-in_default-clause-still g c = λ is told. absurd (never-else _ c.args.self.now.stage c.in_default.not-Going (c.requires.ready told).1)

pub provide-requires-clause-able : goal.provide-requires-clause-able
provide-requires-clause-able g c = c.requires.able

pub returns-in_err-given-clause-able : goal.returns-in_err-given-clause-able
returns-in_err-given-clause-able g c = c.provide.ensures.able

pub returns-in_err-given-clause-plain : goal.returns-in_err-given-clause-plain
returns-in_err-given-clause-plain g c = not-ok _ _ c.from_residual.result c.from_residual.ensures.1

pub returns-in_err-next-clause-able : goal.returns-in_err-next-clause-able
returns-in_err-next-clause-able g c = c.provide.ensures.able

pub returns-in_err-next-clause-plain : goal.returns-in_err-next-clause-plain
returns-in_err-next-clause-plain g c = not-ok _ _ c.from_residual-in_err-next.result c.from_residual-in_err-next.ensures.1

pub reject-requires-then-is_strange-clause-untold : goal.reject-requires-then-is_strange-clause-untold
reject-requires-then-is_strange-clause-untold g c = c.is_strange.ensures.untold c.if-is_strange.true

pub reject-requires-then-is_strange-clause-able : goal.reject-requires-then-is_strange-clause-able
reject-requires-then-is_strange-clause-able g c = c.provide.ensures.able

pub returns-then-is_strange-clause-comes : goal.returns-then-is_strange-clause-comes
returns-then-is_strange-clause-comes g c = λ s k.
    let h = stands-there _ _ c.in-Going.scheduler c.in-Going.is k in
    let held = stored-held _ _ c.args.coming s h.stored in
    absurd (held-untold _ (untold-then c.provide.ensures.within.shape (c.is_strange.ensures.untold c.if-is_strange.true)) c.stands.ensures.told held.0 held.1)

pub returns-then-is_strange-clause-stays : goal.returns-then-is_strange-clause-stays
returns-then-is_strange-clause-stays g c = record { noted = refl; within = stays-behind c.provide.ensures.within c.reject-then-is_strange.ensures.within }

pub returns-then-is_strange-clause-cause : goal.returns-then-is_strange-clause-cause
returns-then-is_strange-clause-cause g c = cause-on _ _ _ _ c.in_ok-given.ensures.cause c.reject-then-is_strange.ensures.cause

pub returns-then-is_strange-clause-able : goal.returns-then-is_strange-clause-able
returns-then-is_strange-clause-able g c = c.reject-then-is_strange.ensures.able

pub returns-then-is_strange-clause-still : goal.returns-then-is_strange-clause-still
returns-then-is_strange-clause-still g c = λ is told. absurd (not-both (untold-then c.provide.ensures.within.shape (c.is_strange.ensures.untold c.if-is_strange.true)) told)

pub returns-clause-able : goal.returns-clause-able
returns-clause-able g c = c.provide.ensures.able

pub returns-clause-plain : goal.returns-clause-plain
returns-clause-plain g c =
    either-way (comes_plain c.in_ok-next.next ≡ true) (g.D.Disks.view c.args.disks.now).told (λ told.
    let x = c.in-Going.scheduler in
    let r = c.requires.ready told in
    let h = stands-there _ _ x c.in-Going.is r.1 in
    let p = c.in_ok-given.ensures.given r.0 (serves-asks _ _ x c.args.coming r.0 h c.books.result.now c.books.ensures) in
    let d = taken-performs _ _ _ _ c.args.coming c.in_ok-given.given r.0 c.take_up.new.scheduler c.in_ok-next.next refl p h.serves
    (c.in_ok-next.ensures r.0 (serves-takes _ _ x c.args.coming r.0 h _ _ _ c.in_ok-given.given p)) in
    let view = g.D.Disks.view c.provide.new.disks in
    seen-plain (g.S.Storage.holds view c.provide.new.storage) (g.S.Storage.is_new view c.provide.new.storage) (at.Going c.take_up.new.scheduler) c.in_ok-next.next _ r.0 d.told h.plain d.sees)
    (λ untold. c.is_strange.ensures.fits c.if-is_strange.false (untold-now c.provide.ensures.within.shape untold))
