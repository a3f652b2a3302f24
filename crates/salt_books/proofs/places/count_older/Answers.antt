use Rattle.salt_books.proofs.ByName.{parted-by-name}
use Rattle.salt_books.proofs.places.count_older.Goals as goal
use Rattle.salt_books.specs.declared.held.Held.{Held}
use Rattle.salt_values.specs.Id.{is_older}
use Rattle.std.proofs.Common.{of_calls, rules}
use Rattle.std.proofs.lemmas.Fn.{always_returns_same}

pub returns-clause-counted : goal.returns-clause-counted
returns-clause-counted c =
    c.partition_point.ensures.partitioned (λ (h : Held). is_older h.open.unit c.args.unit) (always_returns_same _ _ _ (λ a r f k. search (rules, of_calls)))
    (parted-by-name c.args.unit c.args.units.now c.requires)
