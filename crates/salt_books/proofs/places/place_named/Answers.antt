use Rattle.salt_books.proofs.LookUps.{named}
use Rattle.salt_books.proofs.places.place_named.Goals as goal
use Rattle.std.proofs.Common.{subst}
use Rattle.std.specs.Prelude.{IsSome}

pub unreachable-requires : goal.unreachable-requires
unreachable-requires c = let none_is = subst IsSome c.in-None.ensures c.requires.there in cc

pub returns-clause-within : goal.returns-clause-within
returns-clause-within c = c.in-Some.ensures.0

pub returns-clause-named : goal.returns-clause-named
returns-clause-named c = λ d. named c.args.unit c.args.units.now c.in-Some.at d (c.in-Some.ensures.1 d)
