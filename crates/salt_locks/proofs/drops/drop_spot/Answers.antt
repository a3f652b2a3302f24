use Rattle.salt_locks.proofs.Runs.{none_before, none_behind}
use Rattle.salt_locks.proofs.drops.drop_spot.Goals as goal

pub drop_between-requires-clause-before : goal.drop_between-requires-clause-before
drop_between-requires-clause-before c =
    let s = c.args.spot.now in
    none_before s c.args.locks.now.items c.count_below-from.result c.count_below-from.ensures.value

pub drop_between-requires-clause-behind : goal.drop_between-requires-clause-behind
drop_between-requires-clause-behind c =
    let s = c.args.spot.now in
    none_behind s c.args.locks.now.items c.count_no_later-to.result c.requires.order
    c.count_no_later-to.ensures.value
