use Rattle.law_states.specs.KeptLocks.{is_owned_by}
use Rattle.salt_locks.proofs.Runs.{at_spot, map_set, none_before, none_behind, none_counted, one_counted, order_stays, salted_spot, salted_twice}
use Rattle.salt_locks.proofs.salts.salt_spot.Goals as goal
use Rattle.salt_locks.specs.Spots.{spot_of}
use Rattle.salt_locks.specs.Tables.{salted_lock}
use Rattle.salt_model.specs.declared.events.Owner.{Owner}
use Rattle.std.proofs.Common.{ap, arith, length, set, ◌<◌, ◌∙◌}

pub returns-in-Some : goal.returns-in-Some
returns-in-Some c =
    let ls = c.args.locks.now.items in
    let u = c.args.unit in
    let b = c.args.base in
    let s = c.args.spot.now in
    let k = c.in-Some.at in
    let l = c.index_mut.result.now in
    let y = c.salt_lock.new.lock in
    let from = c.count_below-from.result in
    let to = c.count_no_later-to.result in
    let found = c.in-Some.ensures in
    let bound = c.count_no_later-to.ensures.bound in
    let under = found.1 in
    let least : k < length ls = omega (arith, under, bound) in
    let is = c.index_mut.ensures.value in
    let spots = map_set spot_of ls k l y least is (ap spot_of c.salt_lock.ensures ∙ salted_spot u b l) in record {
      order = order_stays ls (set ls k y) spots c.requires;
      salted = map_set (salted_lock u b) ls k l y least is (ap (salted_lock u b) c.salt_lock.ensures ∙ salted_twice u b l);
      gone = λ rest. one_counted u b s rest ls k l y least is (ap (is_owned_by (Owner.Unit u)) is ∙ found.2 l)
          (ap spot_of is ∙ at_spot s ls from to c.requires c.count_below-from.ensures.value c.count_no_later-to.ensures.value k l found.0 found.1)
          c.salt_lock.ensures;
    }

pub returns-in-None-clause-gone : goal.returns-in-None-clause-gone
returns-in-None-clause-gone c =
    let ls = c.args.locks.now.items in
    let s = c.args.spot.now in
    let from = c.count_below-from.result in
    let to = c.count_no_later-to.result in
    λ rest. none_counted (Owner.Unit c.args.unit) s rest ls from to (none_before s ls from c.count_below-from.ensures.value) (none_behind s ls to c.requires c.count_no_later-to.ensures.value) c.in-None.ensures
