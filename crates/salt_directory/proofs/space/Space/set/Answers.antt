use Rattle.salt_directory.proofs.Totals.{total_small}
use Rattle.salt_directory.proofs.space.Space.set.Goals as goal
use Rattle.std.proofs.Common.{arith}

pub overflow_add-self : goal.overflow_add-self
overflow_add-self c =
    let few = c.self.invariant.1 in
    let small = total_small c.self.inside.free.items c.self.inside.total c.self.invariant.2 in
    record { fits = omega (arith, few, small, c.from.ensures, c.ranges.free.fits) }
