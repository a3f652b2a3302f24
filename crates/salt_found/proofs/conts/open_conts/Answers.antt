use Rattle.salt_found.proofs.Following.{followed_is}
use Rattle.salt_found.proofs.conts.open_conts.Goals as goal
use Rattle.salt_found.specs.Conts.{OpensConts}
use Rattle.std.proofs.Common.{subst}

pub returns : goal.returns
returns c log ds is same = subst (OpensConts c.follow_all.result) (followed_is c.args.catalogue.now c.args.kept.now log ds is same) c.follow_all.ensures
