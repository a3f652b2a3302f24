use Rattle.salt_disk.proofs.CallAfterCall.{shape_goes_on}
use Rattle.salt_gatelog.proofs.Entries.{keeps_then}
use Rattle.salt_partition.proofs.Opened.{content_found}
use Rattle.salt_partition.proofs.contents.content_of.Goals as goal
use Rattle.std.specs.Result.{result_err}

pub returns-in-Ok-clause-kept : goal.returns-in-Ok-clause-kept
returns-in-Ok-clause-kept g c = keeps_then (g.D.Disks.view c.args.disks.now) (g.D.Disks.view c.open_log.new.disks) (g.D.Disks.view c.read_log.new.disks) (result_err c.read_log.result) c.in-Ok.ensures.kept c.read_log.ensures.kept

pub returns-in-Ok-clause-content : goal.returns-in-Ok-clause-content
returns-in-Ok-clause-content g c =
    let d0 = g.D.Disks.view c.args.disks.now in
    let d1 = g.D.Disks.view c.open_log.new.disks in
    let d2 = g.D.Disks.view c.read_log.new.disks in
    let opens = c.in-Ok.ensures.log in
    content_found d0 d1 d2 c.args.part c.args.dev c.in-Ok.log opens.1.entries c.read_log.result (shape_goes_on d0 d1 d2 c.in-Ok.ensures.kept.shape c.read_log.ensures.kept.shape) opens.1.is_log opens.1.some opens.0 opens.1.stands c.read_log.ensures.content
