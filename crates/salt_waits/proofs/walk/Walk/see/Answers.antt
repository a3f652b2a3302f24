use Rattle.salt_waits.proofs.Marks.{adds_new, adds_seen, is_read}
use Rattle.salt_waits.proofs.walk.Walk.see.Goals as goal
use Rattle.std.proofs.Common.{false, refl, true}

pub returns-in_ok-push : goal.returns-in_ok-push
returns-in_ok-push c = adds_new c.args.self.now _ c.args.vertex c.requires (is_read c.args.self.now.seen.items c.args.vertex c.index.result.now false c.requires c.index.ensures c.if-not-index.true) refl c.in_ok-push.ensures.ok

pub returns-else-not-index : goal.returns-else-not-index
returns-else-not-index c = adds_seen c.args.self.now c.args.vertex (is_read c.args.self.now.seen.items c.args.vertex c.index.result.now true c.requires c.index.ensures c.if-not-index.false)
