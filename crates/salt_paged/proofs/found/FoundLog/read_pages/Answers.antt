use Rattle.salt_paged.proofs.Opened.{reads_as}
use Rattle.salt_paged.proofs.found.FoundLog.read_pages.Goals as goal
use Rattle.std.proofs.Common.{refl}

pub returns-clause-reads : goal.returns-clause-reads
returns-clause-reads g c p is =
    reads_as (g.D.Disks.view c.args.disks.now) (g.D.Disks.view c.rows.new.disks) c.args.self _ p c.in_ok-rows.ensures.kept is (c.in_ok-rows.ensures.rows p is) c.requires.named refl refl refl refl refl
