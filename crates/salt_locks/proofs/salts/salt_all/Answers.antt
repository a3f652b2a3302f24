use Rattle.salt_locks.proofs.OneByOne.{set-next}
use Rattle.salt_locks.proofs.salts.salt_all.Goals as goal
use Rattle.salt_locks.specs.Tables.{salted_lock}
use Rattle.std.proofs.Common.{arith, ◌∙◌}
use Rattle.std.proofs.lemmas.List.{length-set}

pub loop-at-preserved : goal.loop-at-preserved
loop-at-preserved c =
    let now = c.loop-at.locks.items in
    let at = c.loop-at.at in
    let len = length-set now at c.salt_lock.new.lock in
    let same = c.loop-at.invariant.1 in
    let test = c.loop-at-test.true in
    (omega arith, len ∙ same, set-next (salted_lock c.args.unit c.args.base) c.args.locks.now.items now at c.index_mut.result.now c.salt_lock.new.lock (omega arith) c.loop-at.invariant.2 c.index_mut.ensures.value c.salt_lock.ensures)
