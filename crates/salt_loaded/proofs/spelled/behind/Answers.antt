use Rattle.salt_loaded.proofs.Fronts.{counted, to_end}
use Rattle.salt_loaded.proofs.spelled.behind.Goals as goal
use Rattle.std.proofs.Common.{Some, ap, arith, ◌∙◌}

pub returns-then-count-bytes : goal.returns-then-count-bytes
returns-then-count-bytes c = λ front rest h. ap (λ l. Some l) (to_end c.args.count c.args.bytes.now ∙ (counted c.args.count c.args.bytes.now front rest h).2)

pub returns-else-count-bytes : goal.returns-else-count-bytes
returns-else-count-bytes c =
    λ front rest h.
    let fits = (counted c.args.count c.args.bytes.now front rest h).0 in
    let not = c.if-count-bytes.false in
    absurd (omega (arith, fits, not))
