use Rattle.salt_books.proofs.Ordered.{parted-by-age}
use Rattle.salt_books.proofs.conts.count_older.Goals as goal
use Rattle.salt_values.specs.Id.{is_older}
use Rattle.salt_values.specs.declared.cont.Cont.{Cont}
use Rattle.std.proofs.Common.{of_calls, rules}
use Rattle.std.proofs.lemmas.Fn.{always_returns_same}

pub returns-clause-counted : goal.returns-clause-counted
returns-clause-counted c =
    c.partition_point.ensures.partitioned (λ (x : Cont). is_older x.base c.args.base) (always_returns_same _ _ _ (λ a r f k. search (rules, of_calls)))
    (parted-by-age c.args.base c.args.conts.now c.requires)
