use Rattle.salt_deps.proofs.Grouping.{mutual-unread}
use Rattle.salt_deps.proofs.Linking.{taken-out}
use Rattle.salt_deps.proofs.group.Group.drop_reader.Goals as goal

pub returns : goal.returns
returns c =
    let old = c.args.self.now in
    mutual-unread old.readers.keys c.remove.new.self.keys old.sources.keys c.args.reader (taken-out c.args.reader old.readers c.remove.new.self c.remove.ensures.updates.0)
