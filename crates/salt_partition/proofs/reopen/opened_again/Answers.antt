use Rattle.salt_disk.specs.Disks.{KeepsAll}
use Rattle.salt_disk.specs.declared.disks.DiskErr.TheVariants.{Failed}
use Rattle.salt_gatelog.proofs.Entries.{keeps_then, not_told}
use Rattle.salt_gatelog.specs.Pair.{pair_err_of}
use Rattle.salt_partition.proofs.reopen.opened_again.Goals as goal
use Rattle.salt_partition.specs.Openings.{IsWhy}
use Rattle.std.proofs.Common.{None, Some, subst, sym, ◌∙◌}

pub rejected-requires : goal.rejected-requires
rejected-requires g c =
    let d = g.D.Disks.view c.args.disks.now in
    let e = g.D.Disks.view c.open_partition.new.disks in
    let arm = c.in-Err-NotSalt in
    let keeps : KeepsAll d e None = subst (λ x. KeepsAll d e (pair_err_of x)) arm.field-0-is arm.ensures.kept in
    not_told e.told (λ now.
    let told = sym keeps.shape.told ∙ now in
    let why = subst (λ x. IsWhy d.bytes c.args.boot c.args.decided.now c.args.part x) arm.field-0-is (arm.ensures.why told) in
    absurd (cc (why, c.requires.sound told)))

pub returns-in-Err-NotSalt-clause-kept : goal.returns-in-Err-NotSalt-clause-kept
returns-in-Err-NotSalt-clause-kept g c =
    let d = g.D.Disks.view c.args.disks.now in
    let e = g.D.Disks.view c.open_partition.new.disks in
    let keeps : KeepsAll d e None = subst (λ x. KeepsAll d e (pair_err_of x)) c.in-Err-NotSalt.field-0-is c.in-Err-NotSalt.ensures.kept in
    rw c.rejected.ensures.failed (keeps_then d e (g.D.Disks.view c.rejected.new.disks) (Some Failed) keeps c.rejected.ensures.kept)
