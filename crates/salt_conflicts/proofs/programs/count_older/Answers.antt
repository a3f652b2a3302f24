use Rattle.salt_conflicts.proofs.Naming.{parted-by-age}
use Rattle.salt_conflicts.proofs.programs.count_older.Goals as goal
use Rattle.salt_values.specs.Id.{is_older}
use Rattle.std.proofs.Common.{of_calls, rules}
use Rattle.std.proofs.lemmas.Fn.{always_returns_same}

pub returns-clause-counted : goal.returns-clause-counted
returns-clause-counted c =
    c.partition_point.ensures.partitioned (λ v. is_older v c.args.name) (always_returns_same _ _ _ (λ a r f k. search (rules, of_calls)))
    (parted-by-age c.args.name c.args.names.now c.requires)
