use Rattle.std.specs.Prelude.{[], Some, ⊤, ◌+◌, ◌<◌, ◌≡◌}
use Rattle.std.proofs.lemmas.Result.{err_from_is_err_and}
use Rattle.salt_storage.proofs.Staying.{stays-same}
use Rattle.salt_engine.proofs.Untold.{untold-by}
use Rattle.salt_engine.proofs.Counted.{cause-lost, same-cause}
use Rattle.salt_driver.proofs.Counted.{counts-cause}
use Rattle.law_openings.specs.Draining.{statements_at}
use Rattle.salt_database.specs.Standing.{left_in}
use Rattle.salt_database.specs.Performing.{ComesInOpening}
use Rattle.salt_database.proofs.Halved.{at-closed, closed-at, closed-has, closed-made, closed-net, else-opens, engine-sees, half-within, some-less, still-to-open}
use Rattle.salt_database.proofs.Netted.{unfound-lies}
use Rattle.salt_database.proofs.database.DatabaseOpenable.go_on.Goals as goal
use Rattle.salt_database.specs.Halves.{IfClosed, IfNext, IsOnward, next_of}
use Rattle.salt_database.specs.declared.onward.Onward.{Onward}
use Rattle.salt_engine.proofs.Netted.{breaks-there}
use Rattle.salt_engine.specs.Netted.{AgreesWithNet}
use Rattle.salt_storage.specs.Staying.{StaysWithin}
use Rattle.std.proofs.Common.{inl, inr, refl, subst, sym, ◌∙◌}

pub go_on-requires-clause-stands : goal.go_on-requires-clause-stands
go_on-requires-clause-stands g c = λ told.
    let s = c.requires.stands told in
    let is = sym c.replace.ensures.value ∙ c.closed-opening.ensures in
    (s.0, s.1, closed-at g.S.Storage.asked g.S.Storage.net _ _ _ c.args.self.now c.closed-opening.result c.args.event s.0 is s.2)

pub returns-in-Ok-Served-clause-moves : goal.returns-in-Ok-Served-clause-moves
returns-in-Ok-Served-clause-moves g c = λ p sound at.
    let now = g.D.Disks.view c.go_on.new.disks in
    let asked = g.S.Storage.asked in
    let net = g.S.Storage.net in
    let o = c.go_on.new.self in
    let is = sym c.replace.ensures.value ∙ c.closed-opening.ensures in
    let was = closed-at asked net _ _ _ c.args.self.now c.closed-opening.result c.args.event p is at in
    let m = c.in-Ok-Served.ensures.moves p sound was in
    let goes = subst (λ (onward : Onward). IsOnward (g.S.Storage.holds now) (g.S.Storage.is_new now) now.can_stop o onward m.0) c.in-Ok-Served.field-0-is m.2 in
    let sent = subst (λ (onward : Onward). AgreesWithNet (asked o.storage) (net o.storage) (next_of onward) m.0.state) c.in-Ok-Served.field-0-is
    (c.in-Ok-Served.ensures.sent p sound was (closed-net asked net _ _ _ c.args.self.now c.closed-opening.result c.args.event p is at) m.0 m.1) in
    let e = c.into_engine.ensures in (
      m.0,
      m.1,
      record {
        state =
            engine-sees asked net (g.S.Storage.holds now) (g.S.Storage.is_new now) now.can_stop o c.in-Ok-Served.scheduler c.into_engine.result m.0.state e.storage e.serves e.single e.none
            goes.state sent;
        idle = goes.idle;
      },
    )

pub returns-in-Ok-Next-clause-moves : goal.returns-in-Ok-Next-clause-moves
returns-in-Ok-Next-clause-moves g c = λ p sound at.
    let now = g.D.Disks.view c.go_on.new.disks in
    let asked = g.S.Storage.asked in
    let net = g.S.Storage.net in
    let o = c.go_on.new.self in
    let is = sym c.replace.ensures.value ∙ c.closed-opening.ensures in
    let was = closed-at asked net _ _ _ c.args.self.now c.closed-opening.result c.args.event p is at in
    let m = c.in-Ok-Next.ensures.moves p sound was in
    let goes = subst (λ (onward : Onward). IsOnward (g.S.Storage.holds now) (g.S.Storage.is_new now) now.can_stop o onward m.0) c.in-Ok-Next.field-0-is m.2 in
    let sent = subst (λ (onward : Onward). AgreesWithNet (asked o.storage) (net o.storage) (next_of onward) m.0.state) c.in-Ok-Next.field-0-is
    (c.in-Ok-Next.ensures.sent p sound was (closed-net asked net _ _ _ c.args.self.now c.closed-opening.result c.args.event p is at) m.0 m.1) in
    (m.0, m.1, at-closed asked net (g.S.Storage.holds now) (g.S.Storage.is_new now) now.can_stop o c.in-Ok-Next.next m.0 goes sent)

pub returns-in-Err-clause-halts : goal.returns-in-Err-clause-halts
returns-in-Err-clause-halts g c = λ p sound at.
    let asked = g.S.Storage.asked in
    let net = g.S.Storage.net in
    let o = c.go_on.new.self in
    let x = c.closed-opening.result in
    let is = sym c.replace.ensures.value ∙ c.closed-opening.ensures in
    let was = closed-at asked net _ _ _ c.args.self.now x c.args.event p is at in
    let over = (closed-net asked net _ _ _ c.args.self.now x c.args.event p is at).over in
    let unfound = c.go_on.ensures.unfound ∙ was.state.1 in
    breaks-there _ _ _ _ _ p c.args.event c.args.story.now c.go_on.new.story
    (unfound-lies (asked x.storage) (asked o.storage) (net o.storage) o.found p.state unfound over c.go_on.ensures.within.asked)
    (λ q moves. unfound-lies (asked x.storage) (asked o.storage) (net o.storage) o.found q.state unfound (moves.0.after.over_net ∙ over) c.go_on.ensures.within.asked)
    (c.in-Err.ensures.halts p sound was)

pub returns-in-Err-clause-short : goal.returns-in-Err-clause-short
returns-in-Err-clause-short g c = λ p sound at.
    let is = sym c.replace.ensures.value ∙ c.closed-opening.ensures in
    c.in-Err.ensures.short p sound (closed-at g.S.Storage.asked g.S.Storage.net _ _ _ c.args.self.now c.closed-opening.result c.args.event p is at)

pub go_on-requires-clause-callable : goal.go_on-requires-clause-callable
go_on-requires-clause-callable g c = c.requires.callable

pub go_on-requires-clause-answers : goal.go_on-requires-clause-answers
go_on-requires-clause-answers g c = c.requires.answers

pub returns-in-Ok-Served-clause-within : goal.returns-in-Ok-Served-clause-within
returns-in-Ok-Served-clause-within g c =
    half-within _ _ _ c.args.self.now _ _ _ _ (sym c.replace.ensures.value ∙ c.closed-opening.ensures)
    (subst (λ (st : g.row.S.Denot). StaysWithin (g.S.Storage.asked c.closed-opening.result.storage) (g.S.Storage.asked st) (g.D.Disks.view c.args.disks.now) (g.D.Disks.view c.go_on.new.disks)) (sym c.into_engine.ensures.storage) c.go_on.ensures.within)

pub returns-in-Ok-Next-clause-within : goal.returns-in-Ok-Next-clause-within
returns-in-Ok-Next-clause-within g c = half-within _ _ _ c.args.self.now _ _ _ _ (sym c.replace.ensures.value ∙ c.closed-opening.ensures) c.go_on.ensures.within

pub returns-in-Err-clause-within : goal.returns-in-Err-clause-within
returns-in-Err-clause-within g c = half-within _ _ _ c.args.self.now _ _ _ _ (sym c.replace.ensures.value ∙ c.closed-opening.ensures) c.go_on.ensures.within

pub go_on-requires-clause-able : goal.go_on-requires-clause-able
go_on-requires-clause-able g c = closed-has _ _ c.args.self.now c.closed-opening.result (sym c.replace.ensures.value ∙ c.closed-opening.ensures) c.requires.able

pub go_on-requires-clause-plain : goal.go_on-requires-clause-plain
go_on-requires-clause-plain g c = c.requires.plain

pub closed-opening-requires : goal.closed-opening-requires
closed-opening-requires g c = subst (IfClosed (λ o. ⊤)) (sym c.replace.ensures.value) (closed-made c.args.self.now _ c.in-Closed.is)

pub returns-in-Ok-Served-clause-able : goal.returns-in-Ok-Served-clause-able
returns-in-Ok-Served-clause-able g c = subst (g.S.Storage.able (g.D.Disks.view c.go_on.new.disks)) (sym c.into_engine.ensures.storage) c.go_on.ensures.able

pub returns-in-Ok-Next-clause-able : goal.returns-in-Ok-Next-clause-able
returns-in-Ok-Next-clause-able g c = c.go_on.ensures.able

pub returns-in-Err-clause-able : goal.returns-in-Err-clause-able
returns-in-Err-clause-able g c = c.go_on.ensures.able

pub returns-in-Ok-Served-clause-ticks : goal.returns-in-Ok-Served-clause-ticks
returns-in-Ok-Served-clause-ticks g c = λ p sound at.
    let is = sym c.replace.ensures.value ∙ c.closed-opening.ensures in
    let was = closed-at g.S.Storage.asked g.S.Storage.net _ _ _ c.args.self.now c.closed-opening.result c.args.event p is at in
    subst (λ (onward : Onward). c.go_on.new.steps ≡ c.args.steps.now + statements_at (next_of onward)) c.in-Ok-Served.field-0-is (c.in-Ok-Served.ensures.ticks p sound was)

pub returns-in-Ok-Next-clause-ticks : goal.returns-in-Ok-Next-clause-ticks
returns-in-Ok-Next-clause-ticks g c = λ p sound at.
    let is = sym c.replace.ensures.value ∙ c.closed-opening.ensures in
    let was = closed-at g.S.Storage.asked g.S.Storage.net _ _ _ c.args.self.now c.closed-opening.result c.args.event p is at in
    subst (λ (onward : Onward). c.go_on.new.steps ≡ c.args.steps.now + statements_at (next_of onward)) c.in-Ok-Next.field-0-is (c.in-Ok-Next.ensures.ticks p sound was)

pub returns-in-Ok-Served-clause-less : goal.returns-in-Ok-Served-clause-less
returns-in-Ok-Served-clause-less g c = λ told.
    still-to-open c.args.self.now c.closed-opening.result (Some c.args.event) 0 (sym c.replace.ensures.value ∙ c.closed-opening.ensures) (some-less _ _ (c.in-Ok-Served.ensures.less told))

pub returns-in-Ok-Next-clause-less : goal.returns-in-Ok-Next-clause-less
returns-in-Ok-Next-clause-less g c = λ told.
    still-to-open c.args.self.now c.closed-opening.result (Some c.args.event) _ (sym c.replace.ensures.value ∙ c.closed-opening.ensures)
    (subst (λ (onward : Onward). left_in c.go_on.new.self.stage (next_of onward) < left_in c.closed-opening.result.stage (Some c.args.event)) c.in-Ok-Next.field-0-is (c.in-Ok-Next.ensures.less told))

pub returns-in-Ok-Next-clause-plain : goal.returns-in-Ok-Next-clause-plain
returns-in-Ok-Next-clause-plain g c = (subst (λ (onward : Onward). IfNext onward ComesInOpening) c.in-Ok-Next.field-0-is c.in-Ok-Next.ensures.plain).0

pub returns-in-Ok-Next-clause-unarmed : goal.returns-in-Ok-Next-clause-unarmed
returns-in-Ok-Next-clause-unarmed g c = (subst (λ (onward : Onward). IfNext onward ComesInOpening) c.in-Ok-Next.field-0-is c.in-Ok-Next.ensures.plain).1

pub returns-in-Err-clause-broken : goal.returns-in-Err-clause-broken
returns-in-Err-clause-broken g c = c.in-Err.ensures.broken

pub reject-requires-clause-untold : goal.reject-requires-clause-untold
reject-requires-clause-untold g c = untold-by _ (λ told.
    let s = c.requires.stands told in
    else-opens g.S.Storage.asked g.S.Storage.net _ _ _ c.args.self.now c.args.event s.0 c.in_default.not-Closed s.2)

pub reject-requires-clause-able : goal.reject-requires-clause-able
reject-requires-clause-able g c = c.requires.able

pub returns-in_default-clause-able : goal.returns-in_default-clause-able
returns-in_default-clause-able g c = c.reject.ensures.able

pub returns-in_default-clause-halts : goal.returns-in_default-clause-halts
returns-in_default-clause-halts g c = λ p sound at. absurd (else-opens g.S.Storage.asked g.S.Storage.net _ _ _ c.args.self.now c.args.event p c.in_default.not-Closed at)

pub returns-in_default-clause-short : goal.returns-in_default-clause-short
returns-in_default-clause-short g c = λ p sound at. inl refl

pub returns-in_default-clause-broken : goal.returns-in_default-clause-broken
returns-in_default-clause-broken g c = inr c.in_ok-push.ensures.ok

pub returns-in_default-clause-within : goal.returns-in_default-clause-within
returns-in_default-clause-within g c = c.reject.ensures.within

pub returns-in_default-clause-counts : goal.returns-in_default-clause-counts
returns-in_default-clause-counts g c = counts-cause _ _ _ [] refl c.reject.ensures.cause

pub returns-in_err-push-clause-able : goal.returns-in_err-push-clause-able
returns-in_err-push-clause-able g c = c.requires.able

pub returns-in_err-push-clause-halts : goal.returns-in_err-push-clause-halts
returns-in_err-push-clause-halts g c = let q = err_from_is_err_and c.from_residual.result c.from_residual.ensures.1 in
    rw (q.1, q.2) (λ p sound at. absurd (else-opens g.S.Storage.asked g.S.Storage.net _ _ _ c.args.self.now c.args.event p c.in_default.not-Closed at))

pub returns-in_err-push-clause-short : goal.returns-in_err-push-clause-short
returns-in_err-push-clause-short g c = let q = err_from_is_err_and c.from_residual.result c.from_residual.ensures.1 in rw q.1 (λ p sound at. inl refl)

pub returns-in_err-push-clause-broken : goal.returns-in_err-push-clause-broken
returns-in_err-push-clause-broken g c = let q = err_from_is_err_and c.from_residual.result c.from_residual.ensures.1 in rw (q.1, q.2) (inl (c.in_err-push.ensures.err, refl))

pub returns-in_err-push-clause-within : goal.returns-in_err-push-clause-within
returns-in_err-push-clause-within g c = stays-same _ (g.D.Disks.view c.args.disks.now)

pub returns-in_err-push-clause-counts : goal.returns-in_err-push-clause-counts
returns-in_err-push-clause-counts g c = let q = err_from_is_err_and c.from_residual.result c.from_residual.ensures.1 in
    rw (q.1, q.2) (counts-cause _ _ _ [] refl (cause-lost _ _ (same-cause (g.D.Disks.view c.args.disks.now))))
