use Rattle.salt_storage.proofs.Staying.{stays-behind}
use Rattle.salt_engine.proofs.Untold.{either-way, untold-by}
use Rattle.salt_engine.proofs.Counted.{cause-on}
use Rattle.salt_driver.proofs.Untold.{told-then, untold-now}
use Rattle.salt_database.specs.Performing.{ComesInOpening}
use Rattle.salt_database.proofs.OpenDone.{begun-by, booted-left, broken-never, down-lies, err-with, found-broken, found-held, found-there, holding-found, kept-found, never-found, ok-both, ok-with, opening-at, opening-sees, unspent-found}
use Rattle.salt_database.proofs.OpenedOn.{first-unarmed}
use Rattle.salt_database.proofs.opening.Opening.open.Goals as goal
use Rattle.salt_engine.specs.Flights.{flight_of}
use Rattle.salt_engine.specs.Standing.{IsBrokenStage}
use Rattle.salt_driver.proofs.Counted.{counts-cause}
use Rattle.salt_storage.specs.Storing.{booted}
use Rattle.std.proofs.Common.{ap, inl, inr, refl, subst, sym, ◌∙◌}
use Rattle.std.proofs.lemmas.Result.{IfErr-weaker, IfOk-weaker, on_err_weaker, on_ok_weaker}
use Rattle.std.specs.Prelude.{IfOk, None, []}

pub unreachable-requires : goal.unreachable-requires
unreachable-requires g c = never-found _ c.args.self.now.found c.args.self.now.stage c.in_default.not-Some c.requires.found

pub down-books-requires : goal.down-books-requires
down-books-requires g c = subst IsBrokenStage (sym (c.replace.ensures.value ∙ c.in-Down.is)) tt

pub open_boot-requires-clause-opened : goal.open_boot-requires-clause-opened
open_boot-requires-clause-opened g c = λ now.
    let there = sym c.replace.ensures.value ∙ c.down-books.ensures in
    let d = c.requires.down (told-then c.in-Ok.ensures.within.shape now) in
    let room = d.0 in
    let p = d.1 in
    let sound = d.2 in
    let fallen = d.3 in
    let lies = d.4 in
    let next = c.in-Ok.ensures.number (kept-found _ _ _ _ _ _ _ _ _ c.in-Some.is there room p lies) (holding-found _ _ _ _ _ _ _ _ _ c.in-Some.is there room p lies) in
    (p.flight, p.state, _, begun-by _ _ _ _ _ _ _ _ _ c.in-Some.is there room p lies sound fallen c.in-Ok.boot next)

pub returns-in-Ok-clause-opens : goal.returns-in-Ok-clause-opens
returns-in-Ok-clause-opens g c = ok-with c.open_boot.result _ _ _ (λ next o both room p sound fallen lies.
    let there = sym c.replace.ensures.value ∙ c.down-books.ensures in
    let k = kept-found _ _ _ _ _ _ _ _ _ c.in-Some.is there room p lies in
    let holding = holding-found _ _ _ _ _ _ _ _ _ c.in-Some.is there room p lies in
    let f = found-there _ _ _ _ _ _ _ _ _ c.in-Some.is there room p lies in
    let next_boot = c.in-Ok.ensures.number k holding in
    let w = o p.flight p.state _ (begun-by _ _ _ _ _ _ _ _ _ c.in-Some.is there room p lies sound fallen c.in-Ok.boot next_boot) in
    let view = g.D.Disks.view in
    let same = sym c.open_boot.ensures.storage in
    opening-at p sound fallen room k _ c.in-Ok.boot f next_boot _ next _ _ _ _ w (
      opening-sees p sound fallen room k _ c.in-Ok.boot f next_boot _ _ _ _ _ _ _ _ next w
          (subst (λ (ds : g.row.D.Denot). g.S.Storage.holds (view ds) c.open_boot.new.self.storage (booted k)) (sym both.1)
          (subst (λ (st : g.row.S.Denot). g.S.Storage.holds (view c.boot.new.disks) st (booted k)) same (c.in-Ok.ensures.holds k holding)))
          (λ u is. subst (λ (ds : g.row.D.Denot). g.S.Storage.is_new (view ds) c.open_boot.new.self.storage u) (sym both.1)
          (subst (λ (st : g.row.S.Denot). g.S.Storage.is_new (view c.boot.new.disks) st u) same (c.in-Ok.ensures.is_new u is))) lies.can_stop
          (c.open_boot.ensures.within.shape.can_stop ∙ c.in-Ok.ensures.within.shape.can_stop) lies.line
          c.open_boot.ensures.single,
      c.open_boot.ensures.found,
    ) both.0) c.open_boot.ensures.opens (ok-both c.open_boot.result _ _ c.open_boot.ensures.tells c.open_boot.ensures.still)

pub returns-in-Ok-clause-reopens : goal.returns-in-Ok-clause-reopens
returns-in-Ok-clause-reopens g c = IfErr-weaker c.open_boot.result _ _ (λ halt memory other room p sound fallen lies.
    let there = sym c.replace.ensures.value ∙ c.down-books.ensures in
    let k = kept-found _ _ _ _ _ _ _ _ _ c.in-Some.is there room p lies in
    let holding = holding-found _ _ _ _ _ _ _ _ _ c.in-Some.is there room p lies in
    absurd (other (memory (c.stands-in-Ok.ensures.told (booted k) (c.in-Ok.ensures.holds k holding))).0)) c.open_boot.ensures.memory

pub returns-in-Ok-clause-stands : goal.returns-in-Ok-clause-stands
returns-in-Ok-clause-stands g c = rw c.open_boot.ensures.storage (err-with c.open_boot.result _ _ _ (λ halt memory flies room p sound fallen lies.
    let view = g.D.Disks.view in
    let there = sym c.replace.ensures.value ∙ c.down-books.ensures in
    let k = kept-found _ _ _ _ _ _ _ _ _ c.in-Some.is there room p lies in
    let holding = holding-found _ _ _ _ _ _ _ _ _ c.in-Some.is there room p lies in
    let still = (memory (c.stands-in-Ok.ensures.told (booted k) (c.in-Ok.ensures.holds k holding))).1 in
    let left = subst (λ (ds : g.row.D.Denot). g.S.Storage.leaves (view ds) c.boot.new.self (booted k) (booted k)) (sym still) (c.stands-in-Ok.ensures.stays _ (c.in-Ok.ensures.holds k holding)) in
    (booted-left _ _ _ _ _ _ _ _ _ c.in-Some.is there room p lies _ _ _ _ _ _ c.open_boot.ensures.found flies (inr refl) (inr refl) left, tt)) c.open_boot.ensures.memory c.open_boot.ensures.flies)

pub returns-in-Ok-clause-flies : goal.returns-in-Ok-clause-flies
returns-in-Ok-clause-flies g c = on_err_weaker c.open_boot.result (λ same. ap flight_of same) c.open_boot.ensures.flies

pub returns-in-Ok-clause-full : goal.returns-in-Ok-clause-full
returns-in-Ok-clause-full g c = λ dev is. absurd (c.open_boot.ensures.full dev is)

pub returns-in-Ok-clause-counts : goal.returns-in-Ok-clause-counts
returns-in-Ok-clause-counts g c = counts-cause _ _ _ [] refl (cause-on _ _ _ _ c.in-Ok.ensures.cause c.open_boot.ensures.cause)

pub returns-in-Err-clause-reopens : goal.returns-in-Err-clause-reopens
returns-in-Err-clause-reopens g c = λ other room p sound fallen lies.
    let there = sym c.replace.ensures.value ∙ c.down-books.ensures in
    let k = kept-found _ _ _ _ _ _ _ _ _ c.in-Some.is there room p lies in
    let holding = holding-found _ _ _ _ _ _ _ _ _ c.in-Some.is there room p lies in
    down-lies _ _ _ _ _ _ _ _ _ c.in-Some.is there room p lies _ _ _ _ _ _ _ refl refl (c.in-Err.ensures.leaves k holding) c.in-Err.ensures.within.shape.can_stop refl refl

pub returns-in-Err-clause-stands : goal.returns-in-Err-clause-stands
returns-in-Err-clause-stands g c = λ room p sound fallen lies.
    let view = g.D.Disks.view in
    let there = sym c.replace.ensures.value ∙ c.down-books.ensures in
    let k = kept-found _ _ _ _ _ _ _ _ _ c.in-Some.is there room p lies in
    let holding = holding-found _ _ _ _ _ _ _ _ _ c.in-Some.is there room p lies in (
      booted-left _ _ _ _ _ _ _ _ _ c.in-Some.is there room p lies (g.S.Storage.holds (view c.boot.new.disks) c.boot.new.self) (g.S.Storage.leaves (view c.boot.new.disks) c.boot.new.self)
          None c.args.self.now.in_flight k (booted k) refl refl (inl refl) (inr refl) (c.in-Err.ensures.leaves k holding),
      tt,
    )

pub returns-in-Err-clause-counts : goal.returns-in-Err-clause-counts
returns-in-Err-clause-counts g c = counts-cause _ _ _ [] refl c.in-Err.ensures.cause

pub open_boot-requires-clause-lost : goal.open_boot-requires-clause-lost
open_boot-requires-clause-lost g c = c.replace.ensures.after

pub returns-in-Ok-clause-untold : goal.returns-in-Ok-clause-untold
returns-in-Ok-clause-untold g c = c.open_boot.ensures.untold

pub returns-in-Ok-clause-within : goal.returns-in-Ok-clause-within
returns-in-Ok-clause-within g c = stays-behind c.boot.ensures.within c.open_boot.ensures.within

pub returns-in-Err-clause-within : goal.returns-in-Err-clause-within
returns-in-Err-clause-within g c = c.boot.ensures.within

pub returns-in-Err-clause-flies : goal.returns-in-Err-clause-flies
returns-in-Err-clause-flies g c = refl

pub returns-in-Err-clause-untold : goal.returns-in-Err-clause-untold
returns-in-Err-clause-untold g c = refl

pub returns-in-Ok-clause-sent : goal.returns-in-Ok-clause-sent
returns-in-Ok-clause-sent g c = on_ok_weaker c.open_boot.result (λ tells. ap g.S.Storage.net c.open_boot.ensures.storage ∙ c.in-Ok.ensures.net) c.open_boot.ensures.tells

pub returns-in-Ok-clause-unfound : goal.returns-in-Ok-clause-unfound
returns-in-Ok-clause-unfound g c = c.open_boot.ensures.found

pub returns-in-Err-clause-unfound : goal.returns-in-Err-clause-unfound
returns-in-Err-clause-unfound g c = refl

pub boot-requires-clause-able : goal.boot-requires-clause-able
boot-requires-clause-able g c = c.requires.able

pub boot-requires-clause-held : goal.boot-requires-clause-held
boot-requires-clause-held g c = λ told.
    let there = sym c.replace.ensures.value ∙ c.down-books.ensures in
    let d = c.requires.down told in (
      kept-found _ _ _ _ _ _ _ _ _ c.in-Some.is there d.0 d.1 d.4,
      holding-found _ _ _ _ _ _ _ _ _ c.in-Some.is there d.0 d.1 d.4,
      unspent-found _ _ _ _ _ _ _ _ _ c.in-Some.is there d.0 d.1 d.4,
    )

pub open_boot-requires-clause-able : goal.open_boot-requires-clause-able
open_boot-requires-clause-able g c = c.boot.ensures.able

pub returns-in-Ok-clause-able : goal.returns-in-Ok-clause-able
returns-in-Ok-clause-able g c = c.open_boot.ensures.able

pub returns-in-Ok-clause-tells : goal.returns-in-Ok-clause-tells
returns-in-Ok-clause-tells g c = on_ok_weaker c.open_boot.result (λ tells. (_, _, tells)) c.open_boot.ensures.tells

pub returns-in-Ok-clause-plain : goal.returns-in-Ok-clause-plain
returns-in-Ok-clause-plain g c = either-way (IfOk c.open_boot.result ComesInOpening) (g.D.Disks.view c.args.disks.now).told (λ told. IfOk-weaker c.open_boot.result _ _ (λ next o.
    let there = sym c.replace.ensures.value ∙ c.down-books.ensures in
    let d = c.requires.down told in
    let room = d.0 in
    let p = d.1 in
    let sound = d.2 in
    let fallen = d.3 in
    let lies = d.4 in
    let k = kept-found _ _ _ _ _ _ _ _ _ c.in-Some.is there room p lies in
    let next_boot = c.in-Ok.ensures.number k (holding-found _ _ _ _ _ _ _ _ _ c.in-Some.is there room p lies) in
    let w = o p.flight p.state _ (begun-by _ _ _ _ _ _ _ _ _ c.in-Some.is there room p lies sound fallen c.in-Ok.boot next_boot) in
    (w.begins.done.1.plain, first-unarmed p sound fallen room k _ c.in-Ok.boot (found-there _ _ _ _ _ _ _ _ _ c.in-Some.is there room p lies) next_boot next w.begins.told)) c.open_boot.ensures.opens)
    (λ untold. IfOk-weaker c.open_boot.result _ _ (λ next comes. comes (untold-now c.boot.ensures.within.shape untold)) c.open_boot.ensures.plain)

pub returns-in-Err-clause-able : goal.returns-in-Err-clause-able
returns-in-Err-clause-able g c = c.boot.ensures.able

pub reject-requires-clause-untold : goal.reject-requires-clause-untold
reject-requires-clause-untold g c = untold-by _ (λ told. broken-never _ (found-broken _ _ _ c.requires.found told) c.in_default-stage.not-Down)

pub reject-requires-clause-able : goal.reject-requires-clause-able
reject-requires-clause-able g c = c.requires.able

pub returns-in_default-stage-clause-reopens : goal.returns-in_default-stage-clause-reopens
returns-in_default-stage-clause-reopens g c = λ other room p sound fallen lies.
    let held = found-held _ _ _ _ _ _ _ _ room p c.in-Some.is lies in
    let told = c.stands.ensures.told held.0 held.1 in
    absurd (broken-never _ (found-broken _ _ _ c.requires.found told) c.in_default-stage.not-Down)

pub returns-in_default-stage-clause-stands : goal.returns-in_default-stage-clause-stands
returns-in_default-stage-clause-stands g c = λ room p sound fallen lies.
    let held = found-held _ _ _ _ _ _ _ _ room p c.in-Some.is lies in
    let told = c.stands.ensures.told held.0 held.1 in
    absurd (broken-never _ (found-broken _ _ _ c.requires.found told) c.in_default-stage.not-Down)

pub returns-in_default-stage-clause-flies : goal.returns-in_default-stage-clause-flies
returns-in_default-stage-clause-flies g c = refl

pub returns-in_default-stage-clause-untold : goal.returns-in_default-stage-clause-untold
returns-in_default-stage-clause-untold g c = refl

pub returns-in_default-stage-clause-full : goal.returns-in_default-stage-clause-full
returns-in_default-stage-clause-full g c = λ dev is. let halt = c.reject.ensures.halt in cc

pub returns-in_default-stage-clause-unfound : goal.returns-in_default-stage-clause-unfound
returns-in_default-stage-clause-unfound g c = refl

pub returns-in_default-stage-clause-able : goal.returns-in_default-stage-clause-able
returns-in_default-stage-clause-able g c = c.reject.ensures.able

pub returns-in_default-stage-clause-within : goal.returns-in_default-stage-clause-within
returns-in_default-stage-clause-within g c = c.reject.ensures.within

pub returns-in_default-stage-clause-counts : goal.returns-in_default-stage-clause-counts
returns-in_default-stage-clause-counts g c = counts-cause _ _ _ [] refl c.reject.ensures.cause
