use Rattle.salt_deps.proofs.Linking.{unlinked}
use Rattle.salt_deps.proofs.links.unlink.Goals as goal
use Rattle.std.proofs.Common.{rules, sym}

pub returns-in-Some : goal.returns-in-Some
returns-in-Some c =
    unlinked c.args.sources.now (c.get_mut.follows.lender c.remove.new.self) c.in-Some.names.now c.remove.new.self c.args.reader c.args.source
    (sym c.in-Some.ensures.value) ((c.get_mut.follows.holds c.remove.new.self).3 (search rules)).0 c.remove.ensures.updates.0
