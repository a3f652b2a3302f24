use Rattle.salt_deps.proofs.Linking.{listed-fewer, unread}
use Rattle.salt_deps.proofs.links.Links.drop_reader.Goals as goal

pub invariant_of-self : goal.invariant_of-self
invariant_of-self c = record {
  listed = listed-fewer c.args.self.now.sources c.remove.new.self c.args.self.now.readers c.args.reader c.args.self.now.listed
      (unread c.args.self.now.sources c.remove.new.self c.args.reader c.remove.ensures.updates.0);
}

pub returns : goal.returns
returns c = unread c.args.self.now.sources c.remove.new.self c.args.reader c.remove.ensures.updates.0
