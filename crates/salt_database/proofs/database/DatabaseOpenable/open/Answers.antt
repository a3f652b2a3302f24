use Rattle.salt_database.proofs.Halved.{closed-has, closed-lies, half-within, opens-at}
use Rattle.salt_database.proofs.Netted.{begun-found, opens-net, unfound-lies}
use Rattle.salt_database.proofs.OpenDone.{ok-with}
use Rattle.salt_database.proofs.database.DatabaseOpenable.open.Goals as goal
use Rattle.salt_database.specs.Halves.{IfClosed}
use Rattle.salt_database.specs.Standing.{IsFoundStage}
use Rattle.salt_storage.specs.Netted.{net_begun}
use Rattle.std.proofs.Common.{ap, subst, sym, ◌∙◌}
use Rattle.std.proofs.lemmas.Result.{IfErr-weaker, IfOk-weaker, on_err_weaker}

pub open-requires-clause-down : goal.open-requires-clause-down
open-requires-clause-down g c = λ told.
    let l = c.requires.down told in
    (l.0, l.1, l.2, l.3, (closed-lies g.S.Storage.asked g.S.Storage.net _ _ _ l.0 l.1 c.args.self.now c.in-Closed.opening c.in-Closed.is l.4).0)

pub returns-clause-opens : goal.returns-clause-opens
returns-clause-opens g c = ok-with c.open.result _ _ _ (λ next opens sent room p sound fallen lies.
    let o = c.in-Closed.opening in
    let found = subst (λ x. IfClosed (λ o. IsFoundStage (g.D.Disks.view c.args.disks.now).told o.found o.stage) x) c.in-Closed.is c.requires.found in
    let l = closed-lies g.S.Storage.asked g.S.Storage.net _ _ _ room p c.args.self.now o c.in-Closed.is lies in
    let h = opens room p sound fallen l.0 in
    let same = sym c.open.ensures.within.asked in
    let now = g.D.Disks.view c.open.new.disks in
    opens-at g.S.Storage.asked g.S.Storage.net (g.S.Storage.holds now) (g.S.Storage.is_new now) now.can_stop c.open.new.self room p c.args.story.now c.open.new.story next h
    (opens-net room p sound o.in_flight l.0.flies h.has next h.stands.comes (g.S.Storage.asked c.open.new.self.storage) (g.S.Storage.net c.open.new.self.storage) (l.1.over ∙ ap (λ q. q.over_net) same)
    (sent ∙ begun-found (g.D.Disks.view c.args.disks.now).told (g.S.Storage.asked o.storage) _ o.found o.stage p.state found l.1 ∙ ap net_begun same)))
    c.open.ensures.opens c.open.ensures.sent

pub returns-clause-reopens : goal.returns-clause-reopens
returns-clause-reopens g c = IfErr-weaker c.open.result _ _ (λ halt again other room p sound fallen lies.
    let o = c.in-Closed.opening in
    let l = closed-lies g.S.Storage.asked g.S.Storage.net _ _ _ room p c.args.self.now o c.in-Closed.is lies in (
      again other room p sound fallen l.0,
      unfound-lies (g.S.Storage.asked o.storage) (g.S.Storage.asked c.open.new.self.storage) _ c.open.new.self.found p.state c.open.ensures.unfound l.1.over c.open.ensures.within.asked,
    )) c.open.ensures.reopens

pub returns-clause-stands : goal.returns-clause-stands
returns-clause-stands g c = on_err_weaker c.open.result (λ left room p sound fallen lies.
    left room p sound fallen (closed-lies g.S.Storage.asked g.S.Storage.net _ _ _ room p c.args.self.now c.in-Closed.opening c.in-Closed.is lies).0) c.open.ensures.stands

pub returns-clause-within : goal.returns-clause-within
returns-clause-within g c = half-within _ _ _ c.args.self.now _ _ _ _ c.in-Closed.is c.open.ensures.within

pub returns-clause-counts : goal.returns-clause-counts
returns-clause-counts g c = c.open.ensures.counts

pub returns-clause-full : goal.returns-clause-full
returns-clause-full g c = c.open.ensures.full

pub returns-clause-untold : goal.returns-clause-untold
returns-clause-untold g c = c.open.ensures.untold

pub returns-clause-unarmed : goal.returns-clause-unarmed
returns-clause-unarmed g c = IfOk-weaker c.open.result _ _ (λ next comes. comes.1) c.open.ensures.plain

pub returns-clause-plain : goal.returns-clause-plain
returns-clause-plain g c = IfOk-weaker c.open.result _ _ (λ next comes. comes.0) c.open.ensures.plain

pub returns-clause-tells : goal.returns-clause-tells
returns-clause-tells g c = c.open.ensures.tells

pub returns-clause-able : goal.returns-clause-able
returns-clause-able g c = c.open.ensures.able

pub open-requires-clause-found : goal.open-requires-clause-found
open-requires-clause-found g c = subst (λ x. IfClosed (λ o. IsFoundStage (g.D.Disks.view c.args.disks.now).told o.found o.stage) x) c.in-Closed.is c.requires.found

pub open-requires-clause-able : goal.open-requires-clause-able
open-requires-clause-able g c = closed-has _ _ c.args.self.now c.in-Closed.opening c.in-Closed.is c.requires.able
