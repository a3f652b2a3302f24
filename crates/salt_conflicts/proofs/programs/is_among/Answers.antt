use Rattle.salt_conflicts.proofs.Naming.{among}
use Rattle.salt_conflicts.proofs.programs.is_among.Goals as goal

pub returns : goal.returns
returns c = among c.args.name c.args.names.now c.count_older-at.result c.is_at.result c.requires c.count_older-at.ensures.counted c.is_at.ensures.there c.is_at.ensures.another
