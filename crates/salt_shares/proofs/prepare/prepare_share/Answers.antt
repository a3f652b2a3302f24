use Rattle.salt_bytes.specs.Partition.{spell_prepared}
use Rattle.salt_shares.proofs.Sharing.{images_one}
use Rattle.salt_shares.proofs.prepare.prepare_share.Goals as goal
use Rattle.salt_partition.specs.Partitions.{prepared}
use Rattle.std.proofs.Common.{sym, ◌∙◌}

pub returns-clause-images : goal.returns-clause-images
returns-clause-images g c p v applied is =
    images_one (g.D.Disks.view c.args.disks.now) (g.D.Disks.view c.prepare.new.disks) c.args.part.now p v applied (spell_prepared (prepared c.args.unit c.args.share.now)) is
    (λ told. sym c.prepare.ensures.others.shape.told ∙ told) c.prepare.ensures.images
