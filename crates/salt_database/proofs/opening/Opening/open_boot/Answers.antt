use Rattle.std.proofs.lemmas.Result.{IfErr-weaker}
use Rattle.salt_storage.proofs.Staying.{stays-same}
use Rattle.salt_engine.proofs.Untold.{untold-by}
use Rattle.salt_engine.proofs.Counted.{cause-broken, cause-lost, same-cause}
use Rattle.salt_database.proofs.TakenUp.{never-some}
use Rattle.salt_database.proofs.OpenDone.{never-full}
use Rattle.salt_database.proofs.Booting.{still-flies}
use Rattle.salt_database.proofs.OpeningActs.{on-err}
use Rattle.salt_database.proofs.opening.Opening.open_boot.Goals as goal
use Rattle.salt_engine.proofs.Outcome.{is-err, not-ok}
use Rattle.salt_engine.specs.declared.flights.InFlight.{InFlight}
use Rattle.salt_books.specs.declared.known.Known.{Known}
use Rattle.std.proofs.Common.{ap, refl, ◌∙◌}
use Rattle.std.specs.Prelude.{None, Option, if◌then◌else◌, nat_lt}

pub returns-clause-opens : goal.returns-clause-opens
returns-clause-opens g c = λ f old new o.
    let later = ap (λ m. nat_lt m c.args.number) (c.decisions.ensures ∙ ap (λ (x : Known). x.decisions) c.known.ensures) in
    let begins = c.in_ok-recovery.ensures.begins c.in-Some.first (c.of_opening.ensures.of c.in-Some.first c.in-Some.is) f c.args.number old new o later in
    let still = c.still_in_flight.ensures ∙ ap (λ (i : Option InFlight). if nat_lt c.decisions.result c.args.number then i else None) c.replace.ensures.value in
    record {
      recovery = _;
      there = refl;
      begins = begins;
      flies = still-flies c.args.books c.args.self.now.single c.args.self.now.in_flight _ f c.args.boot c.args.number old new _ _ _ o later begins still;
    }

pub returns-in_err-recovery-clause-opens : goal.returns-in_err-recovery-clause-opens
returns-in_err-recovery-clause-opens g c = not-ok _ _ c.from_residual.result c.from_residual.ensures.1

pub returns-in_err-recovery-clause-tells : goal.returns-in_err-recovery-clause-tells
returns-in_err-recovery-clause-tells g c = not-ok _ _ c.from_residual.result c.from_residual.ensures.1

pub returns-in_err-recovery-clause-memory : goal.returns-in_err-recovery-clause-memory
returns-in_err-recovery-clause-memory g c = IfErr-weaker c.from_residual.result _ _ (λ halt memory told. (memory, refl)) (is-err _ c.from_residual.result c.from_residual.ensures.1)

pub returns-in_err-recovery-clause-lost : goal.returns-in_err-recovery-clause-lost
returns-in_err-recovery-clause-lost g c = on-err c.from_residual.result c.requires.lost

pub returns-in_err-recovery-clause-flies : goal.returns-in_err-recovery-clause-flies
returns-in_err-recovery-clause-flies g c = on-err c.from_residual.result refl

pub returns-in_err-recovery-clause-untold : goal.returns-in_err-recovery-clause-untold
returns-in_err-recovery-clause-untold g c = on-err c.from_residual.result refl

pub returns-in_err-recovery-clause-storage : goal.returns-in_err-recovery-clause-storage
returns-in_err-recovery-clause-storage g c = refl

pub returns-in_err-recovery-clause-found : goal.returns-in_err-recovery-clause-found
returns-in_err-recovery-clause-found g c = refl

pub returns-in_err-recovery-clause-single : goal.returns-in_err-recovery-clause-single
returns-in_err-recovery-clause-single g c = refl

pub returns-in_err-push-clause-opens : goal.returns-in_err-push-clause-opens
returns-in_err-push-clause-opens g c = not-ok _ _ c.from_residual-in_err-push.result c.from_residual-in_err-push.ensures.1

pub returns-in_err-push-clause-tells : goal.returns-in_err-push-clause-tells
returns-in_err-push-clause-tells g c = not-ok _ _ c.from_residual-in_err-push.result c.from_residual-in_err-push.ensures.1

pub returns-in_err-push-clause-memory : goal.returns-in_err-push-clause-memory
returns-in_err-push-clause-memory g c = IfErr-weaker c.from_residual-in_err-push.result _ _ (λ halt memory told. (memory, refl)) (is-err _ c.from_residual-in_err-push.result c.from_residual-in_err-push.ensures.1)

pub returns-in_err-push-clause-lost : goal.returns-in_err-push-clause-lost
returns-in_err-push-clause-lost g c = on-err c.from_residual-in_err-push.result c.requires.lost

pub returns-in_err-push-clause-flies : goal.returns-in_err-push-clause-flies
returns-in_err-push-clause-flies g c = on-err c.from_residual-in_err-push.result refl

pub returns-in_err-push-clause-untold : goal.returns-in_err-push-clause-untold
returns-in_err-push-clause-untold g c = on-err c.from_residual-in_err-push.result c.in_err-push.ensures.err

pub returns-in_err-push-clause-storage : goal.returns-in_err-push-clause-storage
returns-in_err-push-clause-storage g c = refl

pub returns-in_err-push-clause-found : goal.returns-in_err-push-clause-found
returns-in_err-push-clause-found g c = refl

pub returns-in_err-push-clause-single : goal.returns-in_err-push-clause-single
returns-in_err-push-clause-single g c = refl

pub returns-clause-storage : goal.returns-clause-storage
returns-clause-storage g c = refl

pub returns-clause-found : goal.returns-clause-found
returns-clause-found g c = refl

pub returns-clause-single : goal.returns-clause-single
returns-clause-single g c = refl

pub returns-clause-tells : goal.returns-clause-tells
returns-clause-tells g c = c.in_ok-push.ensures.ok

pub begin-requires : goal.begin-requires
begin-requires g c = λ told. let r = c.requires.opened told in (r.0, c.args.number, r.1, r.2, r.3)

pub reject-requires-clause-untold : goal.reject-requires-clause-untold
reject-requires-clause-untold g c = untold-by _ (λ told. never-some _ _ (c.of_opening.ensures.same told) c.in_default.not-Some (c.in_ok-recovery.ensures.comes told))

pub reject-requires-clause-able : goal.reject-requires-clause-able
reject-requires-clause-able g c = c.requires.able

pub returns-in_default-clause-able : goal.returns-in_default-clause-able
returns-in_default-clause-able g c = c.reject.ensures.able

pub returns-in_default-clause-memory : goal.returns-in_default-clause-memory
returns-in_default-clause-memory g c = λ told. absurd (never-some _ _ (c.of_opening.ensures.same told) c.in_default.not-Some (c.in_ok-recovery.ensures.comes told))

pub returns-in_default-clause-full : goal.returns-in_default-clause-full
returns-in_default-clause-full g c = λ dev is. let halt = c.reject.ensures.halt in cc

pub returns-in_default-clause-within : goal.returns-in_default-clause-within
returns-in_default-clause-within g c = c.reject.ensures.within

pub returns-in_default-clause-cause : goal.returns-in_default-clause-cause
returns-in_default-clause-cause g c = c.reject.ensures.cause

pub returns-in_default-clause-lost : goal.returns-in_default-clause-lost
returns-in_default-clause-lost g c = c.requires.lost

pub returns-in_default-clause-flies : goal.returns-in_default-clause-flies
returns-in_default-clause-flies g c = refl

pub returns-in_default-clause-untold : goal.returns-in_default-clause-untold
returns-in_default-clause-untold g c = refl

pub returns-in_default-clause-storage : goal.returns-in_default-clause-storage
returns-in_default-clause-storage g c = refl

pub returns-in_default-clause-found : goal.returns-in_default-clause-found
returns-in_default-clause-found g c = refl

pub returns-in_default-clause-single : goal.returns-in_default-clause-single
returns-in_default-clause-single g c = refl

pub returns-clause-able : goal.returns-clause-able
returns-clause-able g c = c.requires.able

pub returns-clause-plain : goal.returns-clause-plain
returns-clause-plain g c = λ untold. c.of_opening.ensures.plain untold c.in-Some.first c.in-Some.is

pub returns-clause-still : goal.returns-clause-still
returns-clause-still g c = refl

pub returns-clause-within : goal.returns-clause-within
returns-clause-within g c = stays-same _ (g.D.Disks.view c.args.disks.now)

pub returns-clause-cause : goal.returns-clause-cause
returns-clause-cause g c = same-cause (g.D.Disks.view c.args.disks.now)

pub returns-in_err-recovery-clause-able : goal.returns-in_err-recovery-clause-able
returns-in_err-recovery-clause-able g c = c.requires.able

pub returns-in_err-recovery-clause-plain : goal.returns-in_err-recovery-clause-plain
returns-in_err-recovery-clause-plain g c = not-ok _ _ c.from_residual.result c.from_residual.ensures.1

pub returns-in_err-recovery-clause-still : goal.returns-in_err-recovery-clause-still
returns-in_err-recovery-clause-still g c = not-ok _ _ c.from_residual.result c.from_residual.ensures.1

pub returns-in_err-recovery-clause-full : goal.returns-in_err-recovery-clause-full
returns-in_err-recovery-clause-full g c = λ dev is. never-full c.from_residual.result dev (is-err _ c.from_residual.result c.from_residual.ensures.1) is

pub returns-in_err-recovery-clause-within : goal.returns-in_err-recovery-clause-within
returns-in_err-recovery-clause-within g c = stays-same _ (g.D.Disks.view c.args.disks.now)

pub returns-in_err-recovery-clause-cause : goal.returns-in_err-recovery-clause-cause
returns-in_err-recovery-clause-cause g c = cause-broken _ _ c.from_residual.result _ c.from_residual.ensures.1 (cause-lost _ _ (same-cause (g.D.Disks.view c.args.disks.now)))

pub returns-in_err-push-clause-able : goal.returns-in_err-push-clause-able
returns-in_err-push-clause-able g c = c.requires.able

pub returns-in_err-push-clause-plain : goal.returns-in_err-push-clause-plain
returns-in_err-push-clause-plain g c = not-ok _ _ c.from_residual-in_err-push.result c.from_residual-in_err-push.ensures.1

pub returns-in_err-push-clause-still : goal.returns-in_err-push-clause-still
returns-in_err-push-clause-still g c = not-ok _ _ c.from_residual-in_err-push.result c.from_residual-in_err-push.ensures.1

pub returns-in_err-push-clause-full : goal.returns-in_err-push-clause-full
returns-in_err-push-clause-full g c = λ dev is. never-full c.from_residual-in_err-push.result dev (is-err _ c.from_residual-in_err-push.result c.from_residual-in_err-push.ensures.1) is

pub returns-in_err-push-clause-within : goal.returns-in_err-push-clause-within
returns-in_err-push-clause-within g c = stays-same _ (g.D.Disks.view c.args.disks.now)

pub returns-in_err-push-clause-cause : goal.returns-in_err-push-clause-cause
returns-in_err-push-clause-cause g c = cause-broken _ _ c.from_residual-in_err-push.result _ c.from_residual-in_err-push.ensures.1 (cause-lost _ _ (same-cause (g.D.Disks.view c.args.disks.now)))
