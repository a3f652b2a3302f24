use Rattle.salt_books.proofs.ByName.{order-last}
use Rattle.salt_books.proofs.places.stays_in_order.Goals as goal
use Rattle.std.proofs.Common.{length}
use Rattle.std.proofs.lemmas.Bool.{eqb-true}

pub returns-then-rising : goal.returns-then-rising
returns-then-rising c = λ yes.
    let hs = c.args.units.now in
    let n = c.count_older.result in
    order-last c.args.unit hs n (c.requires c.if-rising.true) c.count_older.ensures.counted (eqb-true n (length hs) yes)
