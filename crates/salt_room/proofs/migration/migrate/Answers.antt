use Rattle.salt_room.proofs.Newest.{newest_already, newest_made}
use Rattle.salt_room.proofs.migration.migrate.Goals as goal

pub returns-then-is_newest : goal.returns-then-is_newest
returns-then-is_newest g c = newest_already (g.D.Disks.view c.args.disks.now) c.args.decisions.now c.args.parts.now.items (c.is_newest.ensures.yes c.if-is_newest.true)

pub returns : goal.returns
returns g c =
    let made = c.begin_newest.ensures in
    newest_made (g.D.Disks.view c.args.disks.now) (g.D.Disks.view c.begin_newest.new.disks) c.args.decisions.now c.begin_newest.new.decisions c.args.parts.now.items c.begin_newest.new.parts.items c.begin_newest.result
    made.ok made.images made.numbers made.shape made.size made.others made.cause made.passes
