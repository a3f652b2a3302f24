use Rattle.salt_books.proofs.conts.are_all_older.Goals as goal
use Rattle.std.proofs.Common.{arith, length, ◌≡◌}
use Rattle.std.proofs.lemmas.Bool.{eqb-true}

pub returns : goal.returns
returns c = λ yes k d h.
    let all : c.count_older.result ≡ length c.args.conts.now = eqb-true c.count_older.result (length c.args.conts.now) yes in
    c.count_older.ensures.counted.0 k d (omega arith) (omega (arith, h, all))
