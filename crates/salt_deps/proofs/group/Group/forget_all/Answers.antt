use Rattle.salt_deps.proofs.Grouping.{mutual-forgot}
use Rattle.salt_deps.proofs.group.Group.forget_all.Goals as goal

pub returns : goal.returns
returns c =
    let old = c.args.self.now in
    mutual-forgot old.readers.keys c.take_out.new.set.keys old.sources.keys c.take_out-2.new.set.keys c.args.names.now c.take_out.ensures c.take_out-2.ensures
