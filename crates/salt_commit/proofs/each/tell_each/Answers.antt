use Rattle.salt_commit.proofs.Sharing.{none_told}
use Rattle.salt_commit.proofs.Turned.{committed_at_once, committed_where, way_of}
use Rattle.salt_commit.proofs.each.tell_each.Goals as goal
use Rattle.salt_commit.specs.Messages.{nodes_of}
use Rattle.salt_commit.specs.Telling.{HaveCommitted, HaveStarted}
use Rattle.salt_net.specs.Paces.{Pace}
use Rattle.std.proofs.Common.{Option, subst, sym}

pub tell_all-requires-clause-way : goal.tell_all-requires-clause-way
tell_all-requires-clause-way g c =
    let r = c.requires.started in
    let nodes = nodes_of c.args.shares.now.items in
    way_of c.args.unit nodes r.0 c.in-Some.net (subst (λ (o : Option Pace). HaveStarted c.args.unit nodes r.0 o) c.in-Some.is r.1)

pub returns-in-Some-clause-committed : goal.returns-in-Some-clause-committed
returns-in-Some-clause-committed g c was rests new started =
    let nodes = nodes_of c.args.shares.now.items in
    committed_where c.tell_all.result c.args.unit c.args.shares.now.items was c.in-Some.net c.tell_all.new.messages c.requires.few rests new (subst (λ (o : Option Pace). HaveStarted c.args.unit nodes was o) c.in-Some.is started)
    c.tell_all.ensures.way c.tell_all.ensures.ended

pub returns-in-None-clause-behind : goal.returns-in-None-clause-behind
returns-in-None-clause-behind g c which log v applied behind = (applied, behind)

pub returns-in-None-clause-told : goal.returns-in-None-clause-told
returns-in-None-clause-told g c = none_told (g.D.Disks.view c.args.disks.now) c.args.parts.now.items c.args.unit c.args.shares.now.items

pub returns-in-None-clause-committed : goal.returns-in-None-clause-committed
returns-in-None-clause-committed g c was rests new started =
    let nodes = nodes_of c.args.shares.now.items in
    subst (λ (o : Option Pace). HaveCommitted c.args.unit nodes was o) (sym c.in-None.is) (committed_at_once c.args.unit nodes was (subst (λ (o : Option Pace). HaveStarted c.args.unit nodes was o) c.in-None.is started))
