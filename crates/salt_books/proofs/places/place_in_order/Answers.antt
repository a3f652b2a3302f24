use Rattle.salt_books.proofs.ByName.{named-nowhere, named-there}
use Rattle.salt_books.proofs.places.place_in_order.Goals as goal

pub returns-then-is_at : goal.returns-then-is_at
returns-then-is_at c = named-there c.args.unit c.args.units.now c.count_older-at.result c.requires (c.is_at.ensures.there c.if-is_at.true)

pub returns-else-is_at : goal.returns-else-is_at
returns-else-is_at c =
    named-nowhere c.args.unit c.args.units.now c.count_older-at.result c.requires c.count_older-at.ensures.counted (c.is_at.ensures.another c.if-is_at.false)
