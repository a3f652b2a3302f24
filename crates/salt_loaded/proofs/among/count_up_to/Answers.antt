use Rattle.salt_loaded.proofs.Counted.{at_most_counts, rows_counted, spots_parted}
use Rattle.salt_loaded.proofs.among.count_up_to.Goals as goal
use Rattle.salt_loaded.specs.Order.{spot_against}
use Rattle.std.proofs.Common.{rules}
use Rattle.std.proofs.lemmas.List.Sorted.{IsPartitionPoint-from_clause}
use Rattle.std.specs.Ordering.{is_gt}
use Rattle.std.specs.Prelude.{not}

pub returns-clause-counted : goal.returns-clause-counted
returns-clause-counted c =
    let bytes = c.args.bytes.now in
    let spots = c.args.spots.now in
    let key = c.args.key.now in
    rows_counted bytes spots c.requires key (λ o. not (is_gt o)) (at_most_counts key) c.partition_point.result c.partition_point.ensures.bound
    (IsPartitionPoint-from_clause (λ s. not (is_gt (spot_against bytes s key))) _ _ c.partition_point.ensures.partitioned (spots_parted bytes spots c.requires key (λ o. not (is_gt o)) (at_most_counts key)) (λ a r f k. search rules))
