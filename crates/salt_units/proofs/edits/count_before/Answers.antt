use Rattle.salt_model.specs.Tables.{changed_at, place}
use Rattle.salt_units.proofs.Cuts.{parted-by}
use Rattle.salt_units.proofs.Searches.{before-ends}
use Rattle.salt_units.proofs.edits.count_before.Goals as goal
use Rattle.salt_units.specs.Putting.{is_before}
use Rattle.std.proofs.Common.{rules}
use Rattle.std.proofs.lemmas.List.Sorted.{IsPartitionPoint-from_clause}

pub returns-clause-counted : goal.returns-clause-counted
returns-clause-counted c =
    let q = place c.args.table c.args.key.now in
    IsPartitionPoint-from_clause (λ x. is_before q (changed_at x)) _ _ c.partition_point.ensures.partitioned (parted-by (is_before q) (before-ends q) c.args.changes.now.items c.requires) (λ a r f k. search rules)
