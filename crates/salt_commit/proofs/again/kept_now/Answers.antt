use Rattle.salt_commit.proofs.Restarted.{kept_is, masks_many, never_blank, never_faulty}
use Rattle.salt_commit.proofs.again.kept_now.Goals as goal
use Rattle.salt_decisions.specs.Kept.{IsKept}
use Rattle.salt_decisions.specs.Opened.{PeekFails, Peeks}
use Rattle.salt_disk.specs.Disks.{KeepsAll}
use Rattle.salt_disk.specs.declared.disks.DiskErr.TheVariants.{Failed}
use Rattle.salt_gatelog.proofs.Entries.{keeps_then}
use Rattle.salt_gatelog.specs.Pair.{pair_err_of}
use Rattle.salt_parts.proofs.Lists.{if_some}
use Rattle.salt_stands.specs.Coordinator.{coordinator_pair}
use Rattle.salt_stands.specs.CoordinatorLog.{CoordinatorLog}
use Rattle.salt_stands.specs.Stands.{logs_of}
use Rattle.std.proofs.Common.{IsTrue, None, Ok, Some, subst}

pub returns-in-Ok-Some-clause-keeps : goal.returns-in-Ok-Some-clause-keeps
returns-in-Ok-Some-clause-keeps g c which log reads told =
    let arm = c.in-Ok-Some in
    kept_is (g.D.Disks.view c.args.disks.now) (g.D.Disks.view c.peek.new.disks) arm.ensures.kept which log reads arm.field-0 arm.peeked arm.field-0-is arm.ensures.answer told

pub returns-in-Ok-Some-clause-masks : goal.returns-in-Ok-Some-clause-masks
returns-in-Ok-Some-clause-masks g c =
    let arm = c.in-Ok-Some in
    let kept = if_some arm.field-0 arm.peeked (λ f. (log : CoordinatorLog) × IsKept f.1 log) arm.field-0-is arm.ensures.keeps in
    masks_many kept.0 arm.peeked.1 kept.1

pub rejected-requires : goal.rejected-requires
rejected-requires g c =
    let r = c.requires in
    let d = g.D.Disks.view c.args.disks.now in
    let e = g.D.Disks.view c.peek.new.disks in
    let arm = c.in-Ok-None in
    never_blank d e arm.ensures.kept r.0 r.1 r.2 (λ told. subst (λ o. Peeks (Ok o) (coordinator_pair (logs_of d.bytes))) arm.field-0-is (arm.ensures.answer told))

pub returns-in-Ok-None-clause-kept : goal.returns-in-Ok-None-clause-kept
returns-in-Ok-None-clause-kept g c =
    rw c.rejected.ensures.failed (keeps_then (g.D.Disks.view c.args.disks.now) (g.D.Disks.view c.peek.new.disks) (g.D.Disks.view c.rejected.new.disks) (Some Failed) c.in-Ok-None.ensures.kept c.rejected.ensures.kept)

pub rejected-requires-in-Err-NotSalt : goal.rejected-requires-in-Err-NotSalt
rejected-requires-in-Err-NotSalt g c =
    let r = c.requires in
    let d = g.D.Disks.view c.args.disks.now in
    let e = g.D.Disks.view c.peek.new.disks in
    let arm = c.in-Err-NotSalt in
    let keeps : KeepsAll d e None = subst (λ x. KeepsAll d e (pair_err_of x)) arm.field-0-is arm.ensures.kept in
    let faulty = λ (told : IsTrue d.told). subst (λ x. PeekFails x (coordinator_pair (logs_of d.bytes))) arm.field-0-is (arm.ensures.answer told) in
    never_faulty d e keeps r.0 r.1 r.2 (λ told. (faulty told).which) (λ told. (faulty told).is)

pub returns-in-Err-NotSalt-clause-kept : goal.returns-in-Err-NotSalt-clause-kept
returns-in-Err-NotSalt-clause-kept g c =
    let d = g.D.Disks.view c.args.disks.now in
    let e = g.D.Disks.view c.peek.new.disks in
    let keeps : KeepsAll d e None = subst (λ x. KeepsAll d e (pair_err_of x)) c.in-Err-NotSalt.field-0-is c.in-Err-NotSalt.ensures.kept in
    rw c.rejected-in-Err-NotSalt.ensures.failed (keeps_then d e (g.D.Disks.view c.rejected-in-Err-NotSalt.new.disks) (Some Failed) keeps c.rejected-in-Err-NotSalt.ensures.kept)
