use Rattle.salt_directory.proofs.Rooms.{pushed_but}
use Rattle.salt_directory.proofs.Totals.{total_small}
use Rattle.salt_directory.proofs.space.Space.push.Goals as goal
use Rattle.std.proofs.Common.{[], arith, length, rules, ◌++◌, ◌∷◌, ◌≡◌}

pub mend-requires-clause-others : goal.mend-requires-clause-others
mend-requires-clause-others c =
    let free = c.self.inside.free.items in
    let most = c.self.inside.most.items in
    let page : length c.as_slice-page.result.now ≡ length free = search rules in
    let longer : c.deref.result.now ≡ free ++ c.args.free ∷ [] = search rules in
    let more : c.deref_mut.result.now ≡ most ++ 0 ∷ [] = search rules in
    rw (page, longer, more) (pushed_but free most c.self.invariant.0 c.args.free)

pub overflow_add-self : goal.overflow_add-self
overflow_add-self c =
    let few = c.self.invariant.1 in
    let small = total_small c.self.inside.free.items c.self.inside.total c.self.invariant.2 in
    record { fits = omega (arith, few, small, c.from.ensures, c.ranges.free.fits) }
