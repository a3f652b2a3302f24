use Rattle.salt_commit.proofs.Sharing.{all_voted_at_once}
use Rattle.salt_commit.proofs.Voting.{err_is, on_given}
use Rattle.salt_commit.proofs.each.prepare_each.Goals as goal
use Rattle.salt_commit.specs.Messages.{nodes_of}
use Rattle.salt_commit.specs.Telling.{HaveStarted}
use Rattle.salt_disk.specs.declared.disks.DiskErr.TheVariants.{Full}
use Rattle.salt_net.specs.Paces.{Pace}
use Rattle.salt_parts.specs.Openings.{decided_in}
use Rattle.salt_turns.specs.Amid.{IsUnknown, Rests}
use Rattle.std.proofs.Common.{None, Option, Some, subst, sym}
use Rattle.std.specs.Prelude.{IfSome, OnOk}
use Rattle.std.specs.Result.{result_err}

pub vote_all-requires-clause-rests : goal.vote_all-requires-clause-rests
vote_all-requires-clause-rests g c = subst (λ (o : Option Pace). IfSome o Rests) c.in-Some.is c.requires.rests

pub vote_all-requires-clause-new : goal.vote_all-requires-clause-new
vote_all-requires-clause-new g c = subst (λ (o : Option Pace). IfSome o (IsUnknown c.args.unit)) c.in-Some.is c.requires.new

pub returns-in-Some-clause-started : goal.returns-in-Some-clause-started
returns-in-Some-clause-started g c =
    subst (λ (o : Option Pace). OnOk c.vote_all.result (HaveStarted c.args.unit (nodes_of c.args.shares.now) o (Some c.vote_all.new.messages))) (sym c.in-Some.is) c.vote_all.ensures.way

pub prepare_all-requires-clause-stand : goal.prepare_all-requires-clause-stand
prepare_all-requires-clause-stand g c =
    let may = c.requires.may in
    record { v = may.v; applied = decided_in may.log; are = may.stand.are; may = may.stand.may }

pub returns-in-None-clause-ok : goal.returns-in-None-clause-ok
returns-in-None-clause-ok g c which log v base = c.prepare_all.ensures.ok v (decided_in log) base.are base.may

pub returns-in-None-clause-voted : goal.returns-in-None-clause-voted
returns-in-None-clause-voted g c =
    let h = c.prepare_all.ensures in
    all_voted_at_once (g.D.Disks.view c.args.disks.now) (g.D.Disks.view c.prepare_all.new.disks) c.args.parts.now.items c.prepare_all.new.parts.items c.args.unit c.args.shares.now (result_err c.prepare_all.result)
    h.images h.others h.cause h.full (λ k is. h.untouched k (err_is c.prepare_all.result (Full k) is)) h.size

pub returns-in-None-clause-started : goal.returns-in-None-clause-started
returns-in-None-clause-started g c =
    subst (λ (o : Option Pace). OnOk c.prepare_all.result (HaveStarted c.args.unit (nodes_of c.args.shares.now) o o)) (sym c.in-None.is)
    (on_given c.prepare_all.result (HaveStarted c.args.unit (nodes_of c.args.shares.now) None None) tt)
