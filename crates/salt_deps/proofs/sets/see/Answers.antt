use Rattle.salt_deps.proofs.Linking.{put-in}
use Rattle.salt_deps.proofs.Names.{has-key}
use Rattle.salt_deps.proofs.Seeing.{sees-one}
use Rattle.salt_deps.proofs.sets.see.Goals as goal
use Rattle.std.proofs.Common.{ap, not, sym, true, ◌∙◌}

pub returns-in_ok-push : goal.returns-in_ok-push
returns-in_ok-push c =
    sees-one c.args.name c.args.seen.now.keys c.args.ahead.now.items c.insert.new.self.keys c.push.new.self.items true
    (sym c.if-branch.true ∙ (c.in_ok-insert.ensures.added ∙ ap not (has-key c.args.name c.args.seen.now.keys)))
    (put-in c.args.name c.args.seen.now c.insert.new.self c.in_ok-insert.ensures.updates.0)
    c.in_ok-push.ensures.items
