use Rattle.salt_model.specs.Tables.{changed_at}
use Rattle.salt_units.proofs.Cuts.{parted-by}
use Rattle.salt_units.proofs.Searches.{to_end-ends}
use Rattle.salt_units.proofs.edits.count_within.Goals as goal
use Rattle.salt_units.specs.Edited.{is_to_end}
use Rattle.std.proofs.Common.{rules}
use Rattle.std.proofs.lemmas.List.Sorted.{IsPartitionPoint-from_clause}

pub returns-clause-counted : goal.returns-clause-counted
returns-clause-counted c =
    let p = is_to_end c.args.table c.args.range.now in
    IsPartitionPoint-from_clause (λ x. p (changed_at x)) _ _ c.partition_point.ensures.partitioned (parted-by p (to_end-ends c.args.table c.args.range.now) c.args.changes.now.items c.requires) (λ a r f k. search rules)
