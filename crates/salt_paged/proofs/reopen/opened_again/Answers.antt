use Rattle.salt_disk.proofs.CallAfterCall.{keeps_on}
use Rattle.salt_disk.specs.Disks.{KeepsOthers}
use Rattle.salt_disk.specs.declared.disks.DiskErr.TheVariants.{Failed, Full}
use Rattle.salt_checkpoint.proofs.Torn.{keeps_more}
use Rattle.salt_gatelog.proofs.Entries.{not_told}
use Rattle.salt_gatelog.specs.Pair.{pair_err_of}
use Rattle.salt_gatelog.specs.declared.pair.PairErr.TheVariants.{Disk}
use Rattle.salt_paged.proofs.Opened.{named_all, others_all}
use Rattle.salt_paged.proofs.reopen.opened_again.Goals as goal
use Rattle.salt_paged.specs.Openings.{IsWhy}
use Rattle.salt_stands.specs.Partition.{pages_device}
use Rattle.std.proofs.Common.{Err, None, Some, ap, subst, sym, ◌≡◌, ◌∙◌}

pub rejected-requires : goal.rejected-requires
rejected-requires g c =
    let d = g.D.Disks.view c.args.disks.now in
    let e = g.D.Disks.view c.open_partition.new.disks in
    let arm = c.in-Err-NotSalt in
    let others : KeepsOthers (pages_device c.args.part) d e None = subst (λ x. KeepsOthers (pages_device c.args.part) d e (pair_err_of x)) arm.field-0-is arm.ensures.others in
    not_told e.told (λ now.
    let told = sym others.shape.told ∙ now in
    let why = subst (λ x. IsWhy d.bytes c.args.boot c.args.decided.now c.args.part x) arm.field-0-is (arm.ensures.why told) in
    absurd (cc (why, c.requires.sound told)))

pub returns-in-Err-NotSalt-clause-images : goal.returns-in-Err-NotSalt-clause-images
returns-in-Err-NotSalt-clause-images g c told log counts =
    let d = g.D.Disks.view c.args.disks.now in
    let e = g.D.Disks.view c.open_partition.new.disks in
    let f = g.D.Disks.view c.rejected.new.disks in
    let pages = pages_device c.args.part in
    keeps_more log.header.sides d e f pages (c.open_partition.ensures.images told log counts) (named_all log.header.sides e f pages (Some Failed) c.rejected.ensures.kept)

pub returns-in-Err-NotSalt-clause-others : goal.returns-in-Err-NotSalt-clause-others
returns-in-Err-NotSalt-clause-others g c =
    let d = g.D.Disks.view c.args.disks.now in
    let e = g.D.Disks.view c.open_partition.new.disks in
    let f = g.D.Disks.view c.rejected.new.disks in
    let pages = pages_device c.args.part in
    let others : KeepsOthers pages d e None = subst (λ x. KeepsOthers pages d e (pair_err_of x)) c.in-Err-NotSalt.field-0-is c.in-Err-NotSalt.ensures.others in
    rw c.rejected.ensures.failed (keeps_on (λ dev. dev ≡ pages) d e f (Some Failed) others (others_all e f pages (Some Failed) c.rejected.ensures.kept))

pub returns-in-Err-Disk-clause-device : goal.returns-in-Err-Disk-clause-device
returns-in-Err-Disk-clause-device g c n is =
    let same : c.in-Err-Disk.e ≡ Full n = cc in
    c.in-Err-Disk.ensures.device n (ap Err (c.in-Err-Disk.field-0-is ∙ ap Disk same))
