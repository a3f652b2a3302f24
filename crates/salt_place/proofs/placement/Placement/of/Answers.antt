use Rattle.salt_place.proofs.Places.{place_of-below}
use Rattle.salt_place.proofs.placement.Placement.of.Goals as goal
use Rattle.salt_place.specs.Placement.{IsParts}
use Rattle.std.proofs.Common.{subst, sym, ◌<◌}

pub returns-clause-below : goal.returns-clause-below
returns-clause-below g c =
    let parts = subst IsParts (sym c.from.ensures) c.requires.parts in
    let is = c.requires.answers c.args.shape.kind c.args.key c.from.result c.place.result c.requires.key parts c.place.ensures in
    subst (λ n. c.place.result < n) c.from.ensures (subst (λ p. p < c.from.result) (sym is) (place_of-below c.args.shape.kind c.args.key.now c.from.result c.requires.key.0 parts))
