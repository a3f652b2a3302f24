use Rattle.salt_disk.specs.declared.disks.DiskErr.TheVariants.{Failed}
use Rattle.salt_gatelog.proofs.Entries.{keeps_then}
use Rattle.salt_partition.proofs.units.unit_told.Goals as goal
use Rattle.std.proofs.Common.{Some}

pub returns-in-None-clause-kept : goal.returns-in-None-clause-kept
returns-in-None-clause-kept g c =
    rw c.rejected.ensures.failed (keeps_then (g.D.Disks.view c.args.disks.now) (g.D.Disks.view c.unit_at.new.disks) (g.D.Disks.view c.rejected.new.disks) (Some Failed) c.in_ok-unit.ensures.kept c.rejected.ensures.kept)
