use Rattle.salt_disk.proofs.Spanned.{covers_pushed, kept_pushed}
use Rattle.salt_disk.proofs.covers.Covers.push.Goals as goal
use Rattle.std.proofs.Common.{rules}

pub invariant_of-self-2 : goal.invariant_of-self-2
invariant_of-self-2 c = rw (c.push_reserved.ensures.items, c.in_ok-extend_from_slice.ensures.items, c.in_ok-reserve.ensures.items)
    (kept_pushed c.self.inside.was.items c.args.was.now c.self.inside.spans.items _ (search rules) (search rules) c.self.invariant)

pub returns-clause-ok : goal.returns-clause-ok
returns-clause-ok c = rw (c.push_reserved.ensures.items, c.in_ok-extend_from_slice.ensures.items, c.in_ok-reserve.ensures.items, ← c.self.view_is)
    (covers_pushed c.self.inside.was.items c.args.was.now c.self.inside.spans.items _ (search rules) (search rules) c.self.invariant)
