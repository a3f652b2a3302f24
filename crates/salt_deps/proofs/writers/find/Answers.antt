use Rattle.salt_deps.proofs.Linking.{put-in}
use Rattle.salt_deps.proofs.Reading.{finds}
use Rattle.salt_deps.proofs.writers.find.Goals as goal
use Rattle.std.proofs.Common.{sym, ◌∙◌}

pub returns-in_ok-insert : goal.returns-in_ok-insert
returns-in_ok-insert c =
    finds c.args.reader c.args.table c.args.range.now c.args.place.now c.args.source c.args.found.now.keys c.insert.new.self.keys (sym c.is_read.ensures ∙ c.if-is_read.true)
    (put-in c.args.source c.args.found.now c.insert.new.self c.in_ok-insert.ensures.updates.0)
